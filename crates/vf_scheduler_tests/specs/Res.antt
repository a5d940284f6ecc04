-- The design `res`: two drivers of one net.
--
--     module res; wire [1:0] w, v; assign w = 2'b1z; assign w = 2'b11; assign v = 2'b10; assign v = 2'b11;
--     initial #1 $display("%b %b", w, v); endmodule
use Rattle.std.specs.Prelude.{◌≡◌, ℕ, true, false, List, [], ◌∷◌, ◌++◌, codes}
use Rattle.vf_base.specs.declared.run.Ending.TheVariants.{Drained}
use Rattle.vf_fours.specs.declared.Bit.TheVariants.{One as One', Z}
use Rattle.vf_format.specs.declared.format.Form.TheVariants.{Bin}
use Rattle.vf_elaborated.specs.declared.design.Piece.TheVariants as piece
use Rattle.vf_elaborated.specs.declared.code.ShowKind.TheVariants as kind
use Rattle.vf_elaborated.specs.declared.code.Instr.TheVariants.{Drive, Delay, Show, Halt}
use Rattle.vf_elaborated.specs.Elaborated.{Elaborated}
use Rattle.vf_scheduler_tests.specs.Rows.{Row, rows, at_zero}
use Rattle.vf_scheduler_tests.specs.Writing.{net, number, plain, bits, read, whole, process, driving, wrote, printed, over}

abbrev pub res : Elaborated
res = record {
  top = codes "res";
  signals = net (codes "res.w") 2 ∷ net (codes "res.v") 2 ∷ [];
  processes =
      driving 0 (Drive (whole 0 2) (bits (Z ∷ One' ∷ []))) ∷ driving 1 (Drive (whole 0 2) (number 2 3))
      ∷ driving 2 (Drive (whole 1 2) (number 2 2)) ∷ driving 3 (Drive (whole 1 2) (number 2 3))
      ∷ process (Delay (plain 1) ∷ Show kind.Display 0 ∷ Halt ∷ []) ∷ [];
  shows = record { pieces = piece.Value Bin false (read 0) ∷ piece.Plain (codes " ") ∷ piece.Value Bin false (read 1) ∷ []; line = true } ∷ [];
  slots = 4;
  drivers = 4;
}

-- the number of words, and those that are not 0 at time zero
abbrev pub res_words : ℕ × List (ℕ × ℕ)
res_words = (128, (2, 1) ∷ (3, 5) ∷ (17, 2) ∷ (18, 2) ∷ (21, 2) ∷ (22, 3) ∷ (25, 2) ∷ (26, 4) ∷ (29, 2) ∷ (30, 5) ∷ (33, 2) ∷ (36, 3) ∷ (37, 3) ∷ (38, 3) ∷ (39, 3) ∷ (40, 3) ∷ (41, 3) ∷ (42, 3) ∷ (43, 3) ∷ (44, 3) ∷ (45, 3) ∷ (46, 3) ∷ (47, 3) ∷ [])

-- what each turn does, from the first on
abbrev pub res_rows : List Row
res_rows =
    wrote ((1, 1) ∷ (2, 2) ∷ (17, 5) ∷ (18, 0) ∷ [])
    ∷ wrote ((1, 0) ∷ (17, 1) ∷ (40, 2) ∷ (41, 1) ∷ [])
    ∷ wrote ((1, 2) ∷ (2, 3) ∷ (21, 5) ∷ (22, 0) ∷ [])
    ∷ wrote ((1, 0) ∷ (21, 1) ∷ (37, 0) ∷ (43, 0) ∷ [])
    ∷ wrote ((1, 3) ∷ (2, 4) ∷ (25, 5) ∷ (26, 0) ∷ [])
    ∷ wrote ((1, 0) ∷ (25, 1) ∷ (44, 2) ∷ (45, 0) ∷ [])
    ∷ wrote ((1, 4) ∷ (2, 5) ∷ (29, 5) ∷ (30, 0) ∷ [])
    ∷ wrote ((1, 0) ∷ (29, 1) ∷ (39, 1) ∷ (47, 0) ∷ [])
    ∷ wrote ((1, 5) ∷ (2, 0) ∷ (3, 0) ∷ (33, 5) ∷ [])
    ∷ wrote ((1, 0) ∷ (8, 5) ∷ (32, 1) ∷ (33, 4) ∷ (35, 1) ∷ [])
    ∷ wrote ((0, 1) ∷ (2, 5) ∷ (3, 5) ∷ (8, 0) ∷ (33, 2) ∷ (35, 0) ∷ [])
    ∷ wrote ((1, 5) ∷ (2, 0) ∷ (3, 0) ∷ (33, 5) ∷ [])
    ∷ printed ((32, 2) ∷ []) (codes "11 1x" ++ 10 ∷ [])
    ∷ wrote ((1, 0) ∷ (33, 0) ∷ [])
    ∷ over Drained ∷ []

-- the scheduler does that
abbrev pub ResRuns : Type 0
ResRuns = (at_zero res ≡ res_words) × (rows res ([]) 15 ≡ res_rows)
