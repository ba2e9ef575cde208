-- The lines of a refused shop, and one of a message that cannot be read; document 01's worked output is in the crate `sheet`.
use mathlib.Core.Path.{◌≡◌, refl}
use Rattle.request.specs.Refusal.{bad_shop, cut_short}
use Rattle.text.specs.Text.{ascii, significant, decimal, rest_of_line, line}
use Rattle.report.specs.Lines.{refused_line, unread_line}

refused-worked : (refused_line cut_short ≡ ascii "board refused 16\n") × (refused_line bad_shop ≡ ascii "board refused 1\n")
unfolding refused_line line rest_of_line ascii decimal significant
refused-worked = (refl, refl)

unread-worked : unread_line 5 cut_short ≡ ascii "5 - - - 16 0\n"
unfolding unread_line line rest_of_line ascii decimal significant
unread-worked = refl
