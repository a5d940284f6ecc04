-- The design `mon`: a monitor prints at the end of each time step in which its variable changed.
--
--     module mon; reg a; initial begin $monitor("%b", a); a = 0; #1 a = 1; end endmodule
use Rattle.std.specs.Prelude.{◌≡◌, ℕ, true, false, List, [], ◌∷◌, ◌++◌, codes}
use Rattle.vf_base.specs.declared.run.Ending.TheVariants.{Drained}
use Rattle.vf_format.specs.declared.format.Form.TheVariants.{Bin}
use Rattle.vf_elaborated.specs.declared.design.Piece.TheVariants as piece
use Rattle.vf_elaborated.specs.declared.code.Instr.TheVariants.{Set, Delay, Watch, Halt}
use Rattle.vf_elaborated.specs.declared.expr.Expr.TheVariants.{Resize}
use Rattle.vf_elaborated.specs.Elaborated.{Elaborated}
use Rattle.vf_scheduler_tests.specs.Rows.{Row, rows, at_zero}
use Rattle.vf_scheduler_tests.specs.Writing.{variable, plain, read, whole, process, wrote, printed, over}

abbrev pub mon : Elaborated
mon = record {
  top = codes "mon";
  signals = variable (codes "mon.a") 1 false ∷ [];
  processes =
      process (Watch 0 ∷ Set (whole 0 1) (Resize (plain 0) 1 true) ∷ Delay (plain 1) ∷ Set (whole 0 1) (Resize (plain 1) 1 true) ∷ Halt ∷ []) ∷ [];
  shows = record { pieces = piece.Value Bin false (read 0) ∷ []; line = true } ∷ [];
  slots = 4;
  drivers = 0;
}

-- the number of words, and those that are not 0 at time zero
abbrev pub mon_words : ℕ × List (ℕ × ℕ)
mon_words = (64, (2, 1) ∷ (3, 1) ∷ (17, 2) ∷ (20, 1) ∷ (21, 1) ∷ [])

-- what each turn does, from the first on
abbrev pub mon_rows : List Row
mon_rows =
    wrote ((1, 1) ∷ (2, 0) ∷ (3, 0) ∷ (17, 5) ∷ [])
    ∷ wrote ((11, 1) ∷ (12, 1) ∷ (16, 1) ∷ [])
    ∷ wrote ((16, 2) ∷ (20, 0) ∷ (21, 0) ∷ [])
    ∷ wrote ((1, 0) ∷ (8, 1) ∷ (16, 3) ∷ (17, 4) ∷ (19, 1) ∷ [])
    ∷ printed ((12, 0) ∷ []) (codes "0" ++ 10 ∷ [])
    ∷ wrote ((0, 1) ∷ (2, 1) ∷ (3, 1) ∷ (8, 0) ∷ (17, 2) ∷ (19, 0) ∷ [])
    ∷ wrote ((1, 1) ∷ (2, 0) ∷ (3, 0) ∷ (17, 5) ∷ [])
    ∷ wrote ((12, 1) ∷ (16, 4) ∷ (20, 1) ∷ [])
    ∷ wrote ((1, 0) ∷ (17, 0) ∷ [])
    ∷ printed ((12, 0) ∷ []) (codes "1" ++ 10 ∷ [])
    ∷ over Drained ∷ []

-- the scheduler does that
abbrev pub MonRuns : Type 0
MonRuns = (at_zero mon ≡ mon_words) × (rows mon ([]) 11 ≡ mon_rows)
