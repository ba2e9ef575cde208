-- Laws of messages as the code holds them: how many bytes one has, and that its fields fit.
use Prim.Native.Nat.{ℕ, ◌^◌, ◌≤◌, ◌<◌}
use native.Mathlib.Omega.{arith}
use mathlib.Core.Path.{◌≡◌, refl}
use mathlib.Core.Bool.{Bool, true, false, cond}
use mathlib.Core.List.{List, [], ◌∷◌, ◌++◌}
use lib.Dec.{lit<, lit≤}
use Rattle.request.specs.declared.Request.{Request}
use Rattle.numbers.specs.Numbers.{most_panels}
use Rattle.sets.specs.Sets.{Words}
use Rattle.numbers.specs.declared.Number.{Number}
use Rattle.wire.specs.declared.Kind.TheVariants.{Weak, Strong}
use Rattle.fields.specs.Widths.{number_widths, body_widths, context_widths, size, Within}
use Rattle.wire.specs.Layout.{kind_number, layout, widths_with, least_size}
use Rattle.wire.specs.declared.Message.TheVariants.{Request as request, Settlement as settlement}
use Rattle.wire.specs.Message.{BusMessage, kind_of, front_of, run_of, behind_of, contents}
use Rattle.fields.specs.Contents.{number_fields, body_fields}
use Rattle.wire.specs.Message.{widths_of, size_of, fields_of, Fits}
use Rattle.fields.proofs.WidthLaws.{words_within}

-- ---- the bytes of a message

-- no message has a run, so it has as many bytes as its kind without one
pub runless-size : (m : BusMessage) → size_of m ≡ least_size (kind_of m)
unfolding size_of widths_of least_size run_of
runless-size (request r) = refl
runless-size (settlement n) = refl

-- ---- its fields fit

-- every field of a request is a value of its type
pub record Held (r : Request) : Type 0 where
  pub panel : r.number.panel.0 < 2 ^ 8
  pub event : r.number.event.0 < 2 ^ 8
  pub clock : r.clock.0 < 2 ^ 32
  pub code : r.asked.code < 2 ^ 8
  pub first : r.asked.r < 2 ^ 8
  pub second : r.asked.q < 2 ^ 8
  pub amount : r.asked.amount < 2 ^ 32
  pub words : Words r.context

module _ (r : Request) (h : Held r) where
  pub request_fits : Fits (request r)
  unfolding kind_of layout widths_with widths_of fields_of contents front_of run_of behind_of size_of
  request_fits = record { fields = by r.asked.strong; run = no_run r.asked.strong; words = h.words }
    where
      body : (ws vs : List ℕ) → Within ws vs → Within (number_widths ++ body_widths ++ ws) (number_fields r.number ++ body_fields r ++ vs)
      body ws vs rest = (h.panel, (h.event, (h.clock, (h.code, (h.first, (h.second, (lit< tt, (h.amount, rest))))))))

      context : Within context_widths r.context.words
      context = words_within most_panels r.context.words h.words.count h.words.small

      by : (b : Bool)
          → Within (widths_with (cond b Strong Weak) 0) (size (widths_with (cond b Strong Weak) 0) ∷ kind_number (cond b Strong Weak)
          ∷ ((number_fields r.number ++ body_fields r) ++ cond b r.context.words []))
      by true = (lit< tt, (lit< tt, body context_widths r.context.words context))
      by false = (lit< tt, (lit< tt, body [] [] tt))

      no_run : (b : Bool) → 0 ≤ (layout (cond b Strong Weak)).most_run
      no_run b = omega arith

-- the same of a settlement
pub record HeldNumber (n : Number) : Type 0 where
  pub panel : n.panel.0 < 2 ^ 8
  pub event : n.event.0 < 2 ^ 8

pub settlement_fits : (n : Number) → HeldNumber n → Fits (settlement n)
unfolding kind_of layout widths_with widths_of fields_of contents front_of run_of behind_of size_of
settlement_fits n h = record { fields = (lit< tt, (lit< tt, (h.panel, (h.event, tt)))); run = lit≤ tt; words = tt }

-- every number that a message has is a value of its type
abbrev pub HeldBy : BusMessage → Type 0
HeldBy (request r) = Held r
HeldBy (settlement n) = HeldNumber n

-- no field that the code has is wider than in its message
pub message_fits : (m : BusMessage) → HeldBy m → Fits m
message_fits (request r) h = request_fits r h
message_fits (settlement n) h = settlement_fits n h
