-- The design `swap`: two nonblocking assignments trade the values of two variables.
--
--     module swap; reg a, b;
--     initial begin a = 0; b = 1; a <= b; b <= a; #0 $display("%b%b", a, b); #1 $display("%b%b", a, b); end
--     endmodule
use Rattle.std.specs.Prelude.{◌≡◌, ℕ, true, false, List, [], ◌∷◌, ◌++◌, codes, None}
use Rattle.vf_base.specs.declared.run.Ending.TheVariants.{Drained}
use Rattle.vf_format.specs.declared.format.Form.TheVariants.{Bin}
use Rattle.vf_elaborated.specs.declared.design.Piece.TheVariants as piece
use Rattle.vf_elaborated.specs.declared.code.ShowKind.TheVariants as kind
use Rattle.vf_elaborated.specs.declared.code.Instr.TheVariants.{Set, Post, Delay, Show, Halt}
use Rattle.vf_elaborated.specs.declared.expr.Expr.TheVariants.{Resize}
use Rattle.vf_elaborated.specs.Elaborated.{Elaborated}
use Rattle.vf_scheduler_tests.specs.Rows.{Row, rows, at_zero}
use Rattle.vf_scheduler_tests.specs.Writing.{variable, plain, read, whole, process, wrote, printed, over}

abbrev pub swap : Elaborated
swap = record {
  top = codes "swap";
  signals = variable (codes "swap.a") 1 false ∷ variable (codes "swap.b") 1 false ∷ [];
  processes =
      process (Set (whole 0 1) (Resize (plain 0) 1 true) ∷ Set (whole 1 1) (Resize (plain 1) 1 true) ∷ Post (whole 0 1) (read 1) None
      ∷ Post (whole 1 1) (read 0) None ∷ Delay (plain 0) ∷ Show kind.Display 0 ∷ Delay (plain 1) ∷ Show kind.Display 1 ∷ Halt ∷ []) ∷ [];
  shows =
      record { pieces = piece.Value Bin false (read 0) ∷ piece.Value Bin false (read 1) ∷ []; line = true }
      ∷ record { pieces = piece.Value Bin false (read 0) ∷ piece.Value Bin false (read 1) ∷ []; line = true } ∷ [];
  slots = 4;
  drivers = 0;
}

-- the number of words, and those that are not 0 at time zero
abbrev pub swap_words : ℕ × List (ℕ × ℕ)
swap_words = (64, (2, 1) ∷ (3, 1) ∷ (17, 2) ∷ (20, 1) ∷ (21, 1) ∷ (22, 1) ∷ (23, 1) ∷ [])

-- what each turn does, from the first on
abbrev pub swap_rows : List Row
swap_rows =
    wrote ((1, 1) ∷ (2, 0) ∷ (3, 0) ∷ (17, 5) ∷ [])
    ∷ wrote ((16, 1) ∷ (20, 0) ∷ (21, 0) ∷ [])
    ∷ wrote ((16, 2) ∷ (23, 0) ∷ [])
    ∷ wrote ((6, 2) ∷ (7, 2) ∷ (16, 3) ∷ (24, 2) ∷ (29, 1) ∷ (30, 1) ∷ [])
    ∷ wrote ((7, 3) ∷ (16, 4) ∷ (25, 3) ∷ (32, 2) ∷ (35, 1) ∷ (37, 1) ∷ [])
    ∷ wrote ((1, 0) ∷ (4, 1) ∷ (5, 1) ∷ (16, 5) ∷ (17, 3) ∷ [])
    ∷ wrote ((2, 1) ∷ (3, 1) ∷ (4, 0) ∷ (5, 0) ∷ (17, 2) ∷ [])
    ∷ wrote ((1, 1) ∷ (2, 0) ∷ (3, 0) ∷ (17, 5) ∷ [])
    ∷ printed ((16, 6) ∷ []) (codes "01" ++ 10 ∷ [])
    ∷ wrote ((1, 0) ∷ (8, 1) ∷ (16, 7) ∷ (17, 4) ∷ (19, 1) ∷ [])
    ∷ wrote ((2, 2) ∷ (3, 3) ∷ (6, 0) ∷ (7, 0) ∷ [])
    ∷ wrote ((2, 3) ∷ (20, 1) ∷ (24, 0) ∷ (25, 0) ∷ (29, 0) ∷ (30, 0) ∷ [])
    ∷ wrote ((2, 0) ∷ (3, 0) ∷ (22, 0) ∷ (32, 0) ∷ (35, 0) ∷ (37, 0) ∷ [])
    ∷ wrote ((0, 1) ∷ (2, 1) ∷ (3, 1) ∷ (8, 0) ∷ (17, 2) ∷ (19, 0) ∷ [])
    ∷ wrote ((1, 1) ∷ (2, 0) ∷ (3, 0) ∷ (17, 5) ∷ [])
    ∷ printed ((16, 8) ∷ []) (codes "10" ++ 10 ∷ [])
    ∷ wrote ((1, 0) ∷ (17, 0) ∷ [])
    ∷ over Drained ∷ []

-- the scheduler does that
abbrev pub SwapRuns : Type 0
SwapRuns = (at_zero swap ≡ swap_words) × (rows swap ([]) 18 ≡ swap_rows)
