-- Clock order.
use Rattle.std.specs.Prelude.{Bool, ltb}
use Rattle.numbers.specs.Lexicographic.{lexicographic}
use Rattle.request.specs.declared.Request.{Request}

-- x comes before y in clock order: by clock reading, then panel, then event [line 3 of Creek's Algorithm 1, which `creek` cites]
unfoldable pub before : Request → Request → Bool
before x y =
    lexicographic x.clock.0 y.clock.0
    (lexicographic x.number.panel.0 y.number.panel.0 (ltb x.number.event.0 y.number.event.0))
