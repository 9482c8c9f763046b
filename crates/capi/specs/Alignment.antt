-- Module 1 on numbers.
use Rattle.std.specs.Prelude.{ℕ, cond, leb}
use Rattle.burst.specs.Burst.{compatible_of}
use Rattle.burst.specs.declared.Region.{Region}
use Rattle.capi.specs.Answer.{done_number}
use Rattle.capi.specs.Pieces.{direction_of}

unfoldable pub compatible_number : ℕ → ℕ → ℕ → Region → Region → ℕ → ℕ → ℕ
compatible_number direction address len internal external ai ae =
    cond (leb direction 1) (done_number (compatible_of address len (direction_of direction) internal external ai ae)) 5
