-- `reading::request_at` meets its contract, part by part.
use Rattle.fields.specs.Widths.{decode}
use Rattle.fields.proofs.reading.request_at.Goals as goal

pub returns : goal.returns
unfolding decode
returns c = rw (c.number_at-number.ensures, c.clock_at-clock.ensures, c.asked_at-asked.ensures)
