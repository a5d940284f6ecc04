-- The design `flood`: more nonblocking updates at once than there are event slots.
--
--     module flood; reg a; initial begin $write("x"); a <= 0; a <= 1; a <= 0; end endmodule
use Rattle.std.specs.Prelude.{◌≡◌, ℕ, true, false, List, [], ◌∷◌, codes, None}
use Rattle.vf_base.specs.declared.run.Ending.TheVariants.{Events}
use Rattle.vf_elaborated.specs.declared.design.Piece.TheVariants as piece
use Rattle.vf_elaborated.specs.declared.code.ShowKind.TheVariants as kind
use Rattle.vf_elaborated.specs.declared.code.Instr.TheVariants.{Post, Show, Halt}
use Rattle.vf_elaborated.specs.declared.expr.Expr.TheVariants.{Resize}
use Rattle.vf_elaborated.specs.Elaborated.{Elaborated}
use Rattle.vf_scheduler_tests.specs.Rows.{Row, rows, at_zero}
use Rattle.vf_scheduler_tests.specs.Writing.{variable, plain, whole, process, wrote, printed, over}

abbrev pub flood : Elaborated
flood = record {
  top = codes "flood";
  signals = variable (codes "flood.a") 1 false ∷ [];
  processes =
      process (Show kind.Write 0 ∷ Post (whole 0 1) (Resize (plain 0) 1 true) None ∷ Post (whole 0 1) (Resize (plain 1) 1 true) None
      ∷ Post (whole 0 1) (Resize (plain 0) 1 true) None ∷ Halt ∷ []) ∷ [];
  shows = record { pieces = piece.Plain (codes "x") ∷ []; line = false } ∷ [];
  slots = 2;
  drivers = 0;
}

-- the number of words, and those that are not 0 at time zero
abbrev pub flood_words : ℕ × List (ℕ × ℕ)
flood_words = (64, (2, 1) ∷ (3, 1) ∷ (17, 2) ∷ (20, 1) ∷ (21, 1) ∷ [])

-- what each turn does, from the first on
abbrev pub flood_rows : List Row
flood_rows =
    wrote ((1, 1) ∷ (2, 0) ∷ (3, 0) ∷ (17, 5) ∷ [])
    ∷ printed ((16, 1) ∷ []) (codes "x")
    ∷ wrote ((6, 2) ∷ (7, 2) ∷ (16, 2) ∷ (22, 2) ∷ (27, 1) ∷ [])
    ∷ wrote ((7, 3) ∷ (16, 3) ∷ (23, 3) ∷ (30, 2) ∷ (35, 1) ∷ (36, 1) ∷ [])
    ∷ over Events ∷ []

-- the scheduler does that
abbrev pub FloodRuns : Type 0
FloodRuns = (at_zero flood ≡ flood_words) × (rows flood ([]) 5 ≡ flood_rows)
