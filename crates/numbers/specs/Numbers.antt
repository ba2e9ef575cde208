-- Numbers of requests: equality, and what makes one bad. Their places in a table of 512 are in `internal/Slots`.
use Rattle.std.specs.Prelude.{ℕ, Bool, not, ◌&&◌, ◌||◌, ltb, leb, eqb}
use Rattle.numbers.specs.declared.PanelNo.{PanelNo}
use Rattle.numbers.specs.declared.EventNo.{EventNo}
use Rattle.numbers.specs.declared.Clock.{Clock}
use Rattle.numbers.specs.declared.Number.{Number}

-- a count as a panel, as an event, as a clock reading: three types, so that none stands where another is due
abbrev pub panel_no : ℕ → PanelNo
panel_no p = record { 0 = p }

abbrev pub event_no : ℕ → EventNo
event_no e = record { 0 = e }

abbrev pub clock_reading : ℕ → Clock
clock_reading c = record { 0 = c }

-- panel p, event e; document 01 writes p/e
abbrev pub numbered : ℕ → ℕ → Number
numbered p e = record { panel = panel_no p; event = event_no e }

-- 0/0, which stands where there is no number
abbrev pub no_number : Number
no_number = numbered 0 0

-- m and n are one number
unfoldable pub same_number : Number → Number → Bool
same_number m n = eqb m.panel.0 n.panel.0 && eqb m.event.0 n.event.0

-- the most panels of a shop
abbrev pub most_panels : ℕ
most_panels = 8

-- the most events of a panel
abbrev pub most_events : ℕ
most_events = 64

-- bad number (refusal 2), in a shop of p panels: panel not below p, or event not 1 to 64
unfoldable pub bad_number : ℕ → Number → Bool
bad_number p n = not (ltb n.panel.0 p) || not (leb 1 n.event.0 && leb n.event.0 most_events)
