-- `put_request` meets its contract: one store for the clock and one for the word, and the words of the context.
use mathlib.Core.Path.{refl}
use Rattle.store.proofs.RequestLaws.{stored}
use Rattle.store.proofs.requests.put_request.Goals as goal

pub returns : goal.returns
returns c =
    stored _ c.requires.0 c.requires.1 c.word_of.ensures c.requires.2 refl refl c.put_words.ensures
