-- `same_at` meets its contract: the request at the slot is compared as a whole.
use mathlib.Core.Path.{◌≡◌, ◌∙◌}
use Rattle.request.specs.Request.{same_request}
use Rattle.request.proofs.EqualityLaws.{equal_request}
use Rattle.store.proofs.requests.same_at.Goals as goal

pub returns : goal.returns
returns c =
    let same : c.eq.result ≡ same_request c.request_at.result c.args.x.now = c.eq.ensures ∙ equal_request c.request_at.result c.args.x.now in
    rw c.request_at.ensures at same
