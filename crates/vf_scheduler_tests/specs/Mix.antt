-- The design `mix`: what the other designs lack. Loops of `repeat`, cases, `wait`, an edge of one bit, reads past the end, `$feof`, checkpoints,
-- an unknown delay, a delay up to the last time, and `$stop`; on the byte `A`.
--
--     module mix; reg [7:0] a; integer c; reg [3:0] b;
--     initial begin
--       a = 0; repeat (8'd2) a = a + 8'd3;
--       b = 4'b1z0x; casez (b) 4'b100x: $write("%h-", b); endcase
--       casex (a) 8'd5, 8'd6: $save("a"); endcase
--       #(4'b1x00) c = $fgetc(1); c = $fgetc(32'h8000_0000); c = $fgetc(32'h8000_0000);
--       b = $feof(32'h8000_0000); $incsave("b"); $strobe("%h-", b); a <= #(3'sd7) 8'd9; #(8'd1)
--       case (a) 8'd6, 8'd7: $stop(3); endcase
--     end
--     initial begin wait (a == 8'd6); $monitor("%0d", c); end
--     initial begin wait (a); @(negedge b[3]); end
--     endmodule
--
-- The strobe prints as the write does, without a newline.
use Rattle.std.specs.Prelude.{◌≡◌, ℕ, ◌^◌, true, false, List, [], ◌∷◌, ◌++◌, codes, Some}
use Rattle.vf_base.specs.declared.run.Ending.TheVariants as ending
use Rattle.vf_base.specs.declared.run.SaveKind.TheVariants.{Full, Incr}
use Rattle.vf_fours.specs.declared.Bit.TheVariants.{Zero, One, X, Z}
use Rattle.vf_fours.specs.declared.BinaryOp.TheVariants as binary
use Rattle.vf_format.specs.declared.format.Form.TheVariants.{Dec, Hex}
use Rattle.vf_elaborated.specs.declared.design.Piece.TheVariants as piece
use Rattle.vf_elaborated.specs.declared.code.Edge.TheVariants.{Neg}
use Rattle.vf_elaborated.specs.declared.code.MatchKind.TheVariants as match
use Rattle.vf_elaborated.specs.declared.code.ShowKind.TheVariants as kind
use Rattle.vf_elaborated.specs.declared.code.Instr.TheVariants.{Set, Getc, Post, Count, Jump, Unless, Match, Delay, Await, Until, Show, Watch, Save, IncSave, Stop, Halt}
use Rattle.vf_elaborated.specs.declared.expr.Expr.{Expr}
use Rattle.vf_elaborated.specs.declared.expr.Expr.TheVariants.{Two, Resize, PastEnd}
use Rattle.vf_elaborated.specs.Elaborated.{Elaborated}
use Rattle.vf_scheduler_tests.specs.Rows.{Row, rows, at_zero}
use Rattle.vf_scheduler_tests.specs.Writing.{variable, number, signed_number, bits, read, whole, event, process, wrote, printed, saved, over}

-- the file descriptor of the stimulus
abbrev stimulus : Expr
stimulus = number 32 (2 ^ 31)

abbrev pub mix : Elaborated
mix = record {
  top = codes "mix";
  signals =
      variable (codes "mix.a") 8 false ∷ variable (codes "mix.rounds") 64 false ∷ variable (codes "mix.c") 32 true ∷ variable (codes "mix.b") 4 false ∷ [];
  processes =
      process (Set (whole 0 8) (number 8 0) ∷ Count (record { 0 = 1 }) (number 8 2) ∷ Unless (Two binary.NotEqual (read 1) (number 64 0) 1 false) 6
      ∷ Set (whole 1 64) (Two binary.Subtract (read 1) (number 64 1) 64 false) ∷ Set (whole 0 8) (Two binary.Add (read 0) (number 8 3) 8 false) ∷ Jump 2
      ∷ Set (whole 3 4) (bits (X ∷ Zero ∷ Z ∷ One ∷ [])) ∷ Match match.Casez (read 3) (bits (X ∷ Zero ∷ Zero ∷ One ∷ []) ∷ []) 9 ∷ Show kind.Write 0
      ∷ Match match.Casex (read 0) (number 8 5 ∷ number 8 6 ∷ []) 11 ∷ Save ∷ Delay (bits (Zero ∷ Zero ∷ X ∷ One ∷ []))
      ∷ Getc (whole 2 32) (number 32 1) ∷ Getc (whole 2 32) stimulus ∷ Getc (whole 2 32) stimulus ∷ Set (whole 3 4) (Resize (PastEnd stimulus) 4 true)
      ∷ IncSave ∷ Show kind.Strobe 0 ∷ Post (whole 0 8) (number 8 9) (Some (signed_number 3 7)) ∷ Delay (number 8 1)
      ∷ Match match.Case (read 0) (number 8 6 ∷ number 8 7 ∷ []) 22 ∷ Stop 3 ∷ Halt ∷ [])
      ∷ process (Until (Two binary.Equal (read 0) (number 8 6) 1 false) ∷ Watch 1 ∷ Halt ∷ [])
      ∷ process (Until (read 0) ∷ Await (event Neg 3 (Some 3) ∷ []) ∷ Halt ∷ []) ∷ [];
  shows =
      record { pieces = piece.Value Hex false (read 3) ∷ piece.Plain (codes "-") ∷ []; line = false }
      ∷ record { pieces = piece.Value Dec true (read 2) ∷ []; line = true } ∷ [];
  slots = 2;
  drivers = 0;
}

-- the number of words, and those that are not 0 at time zero
abbrev pub mix_words : ℕ × List (ℕ × ℕ)
mix_words = (64, (2, 1) ∷ (3, 3) ∷ (17, 2) ∷ (18, 2) ∷ (21, 2) ∷ (22, 3) ∷ (25, 2) ∷ (28, 255) ∷ (29, 255) ∷ (30, 18446744073709551615) ∷ (31, 18446744073709551615) ∷ (32, 4294967295) ∷ (33, 4294967295) ∷ (34, 15) ∷ (35, 15) ∷ [])

-- what each turn does, from the first on
abbrev pub mix_rows : List Row
mix_rows =
    wrote ((1, 1) ∷ (2, 2) ∷ (17, 5) ∷ (18, 0) ∷ [])
    ∷ wrote ((16, 1) ∷ (28, 0) ∷ (29, 0) ∷ [])
    ∷ wrote ((16, 2) ∷ (30, 2) ∷ (31, 0) ∷ [])
    ∷ wrote ((16, 3) ∷ [])
    ∷ wrote ((16, 4) ∷ (30, 1) ∷ [])
    ∷ wrote ((16, 5) ∷ (28, 3) ∷ [])
    ∷ wrote ((16, 2) ∷ [])
    ∷ wrote ((16, 3) ∷ [])
    ∷ wrote ((16, 4) ∷ (30, 0) ∷ [])
    ∷ wrote ((16, 5) ∷ (28, 6) ∷ [])
    ∷ wrote ((16, 2) ∷ [])
    ∷ wrote ((16, 6) ∷ [])
    ∷ wrote ((16, 7) ∷ (34, 9) ∷ (35, 5) ∷ [])
    ∷ wrote ((16, 8) ∷ [])
    ∷ printed ((16, 9) ∷ []) (codes "X-")
    ∷ wrote ((16, 10) ∷ [])
    ∷ saved ((16, 11) ∷ []) Full
    ∷ wrote ((1, 0) ∷ (4, 1) ∷ (5, 1) ∷ (16, 12) ∷ (17, 3) ∷ [])
    ∷ wrote ((1, 2) ∷ (2, 3) ∷ (21, 5) ∷ (22, 0) ∷ [])
    ∷ wrote ((20, 1) ∷ [])
    ∷ wrote ((11, 2) ∷ (12, 1) ∷ (20, 2) ∷ [])
    ∷ wrote ((1, 0) ∷ (21, 0) ∷ [])
    ∷ wrote ((1, 3) ∷ (2, 0) ∷ (3, 0) ∷ (25, 5) ∷ [])
    ∷ wrote ((24, 1) ∷ [])
    ∷ wrote ((1, 0) ∷ (25, 1) ∷ [])
    ∷ wrote ((2, 1) ∷ (3, 1) ∷ (4, 0) ∷ (5, 0) ∷ (17, 2) ∷ [])
    ∷ wrote ((1, 1) ∷ (2, 0) ∷ (3, 0) ∷ (17, 5) ∷ [])
    ∷ wrote ((16, 13) ∷ (33, 0) ∷ [])
    ∷ wrote ((16, 14) ∷ (32, 65) ∷ [])
    ∷ wrote ((16, 15) ∷ (32, 4294967295) ∷ [])
    ∷ wrote ((2, 3) ∷ (3, 3) ∷ (16, 16) ∷ (24, 2) ∷ (25, 2) ∷ (34, 1) ∷ (35, 0) ∷ [])
    ∷ saved ((16, 17) ∷ []) Incr
    ∷ wrote ((9, 4) ∷ (10, 4) ∷ (16, 18) ∷ (36, 3) ∷ [])
    ∷ wrote ((8, 5) ∷ (16, 19) ∷ (44, 1) ∷ (46, 18446744073709551615) ∷ (49, 8) ∷ (50, 9) ∷ [])
    ∷ wrote ((1, 0) ∷ (8, 1) ∷ (16, 20) ∷ (17, 4) ∷ (18, 5) ∷ (19, 1) ∷ [])
    ∷ wrote ((1, 3) ∷ (2, 0) ∷ (3, 0) ∷ (25, 5) ∷ [])
    ∷ wrote ((1, 0) ∷ (25, 0) ∷ [])
    ∷ printed ((9, 0) ∷ (10, 0) ∷ (36, 0) ∷ []) (codes "1-")
    ∷ printed ((12, 0) ∷ []) (codes "-1" ++ 10 ∷ [])
    ∷ wrote ((0, 1) ∷ (2, 1) ∷ (3, 1) ∷ (8, 5) ∷ (17, 2) ∷ (18, 0) ∷ (19, 0) ∷ [])
    ∷ wrote ((1, 1) ∷ (2, 0) ∷ (3, 0) ∷ (17, 5) ∷ [])
    ∷ wrote ((16, 21) ∷ [])
    ∷ over (ending.Stop 3) ∷ []

-- the scheduler does that
abbrev pub MixRuns : Type 0
MixRuns = (at_zero mix ≡ mix_words) × (rows mix (65 ∷ []) 46 ≡ mix_rows)
