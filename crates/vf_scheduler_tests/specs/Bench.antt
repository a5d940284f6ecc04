-- The design `bench`: a counter, its clock, and a process that reads the stimulus; its first 40 turns on the bytes `R` and newline.
--
--     module counter(clk, rst, q);
--       input clk, rst; output [3:0] q; reg [3:0] q;
--       always @(posedge clk) if (rst) q <= 0; else q <= q + 1;
--     endmodule
--     module bench;
--       reg clk, rst; wire [3:0] q; integer c;
--       counter dut(clk, rst, q);
--       initial clk = 0;
--       always #5 clk = ~clk;
--       initial begin
--         rst = 1;
--         c = $fgetc(32'h8000_0000);
--         while (c != -1) begin
--           rst = (c == 82);
--           @(posedge clk);
--           #1 $display("%0t %0d", $time, q);
--           if (c == 10) $save("bench");
--           c = $fgetc(32'h8000_0000);
--         end
--         $finish;
--       end
--     endmodule
use Rattle.std.specs.Prelude.{◌≡◌, ℕ, ◌^◌, true, false, List, [], ◌∷◌, codes, None}
use Rattle.vf_fours.specs.declared.UnaryOp.TheVariants as unary
use Rattle.vf_fours.specs.declared.BinaryOp.TheVariants as binary
use Rattle.vf_format.specs.declared.format.Form.TheVariants.{Dec, Time}
use Rattle.vf_elaborated.specs.declared.design.Piece.TheVariants as piece
use Rattle.vf_elaborated.specs.declared.code.Edge.TheVariants.{Pos}
use Rattle.vf_elaborated.specs.declared.code.ShowKind.TheVariants as kind
use Rattle.vf_elaborated.specs.declared.code.Instr.TheVariants.{Set, Getc, Post, Drive, Jump, Unless, Delay, Await, Show, Save, Finish, Halt}
use Rattle.vf_elaborated.specs.declared.expr.Expr.{Expr}
use Rattle.vf_elaborated.specs.declared.expr.Expr.TheVariants.{One, Two, Resize, Now}
use Rattle.vf_elaborated.specs.Elaborated.{Elaborated}
use Rattle.vf_scheduler_tests.specs.Rows.{Row, rows, at_zero}
use Rattle.vf_scheduler_tests.specs.Writing.{variable, net, number, plain, read, whole, event, process, driving, wrote}

-- the file descriptor of the stimulus
abbrev stimulus : Expr
stimulus = number 32 (2 ^ 31)

abbrev pub bench : Elaborated
bench = record {
  top = codes "bench";
  signals =
      variable (codes "bench.clk") 1 false ∷ variable (codes "bench.rst") 1 false ∷ net (codes "bench.q") 4 ∷ variable (codes "bench.c") 32 true
      ∷ net (codes "bench.dut.clk") 1 ∷ net (codes "bench.dut.rst") 1 ∷ variable (codes "bench.dut.q") 4 false ∷ [];
  processes =
      driving 0 (Drive (whole 4 1) (read 0)) ∷ driving 1 (Drive (whole 5 1) (read 1)) ∷ driving 2 (Drive (whole 2 4) (read 6))
      ∷ process (Await (event Pos 4 None ∷ []) ∷ Unless (read 5) 4 ∷ Post (whole 6 4) (Resize (plain 0) 4 true) None ∷ Jump 5
      ∷ Post (whole 6 4) (Resize (Two binary.Add (Resize (read 6) 32 false) (Resize (plain 1) 32 false) 32 false) 4 false) None ∷ Jump 0 ∷ [])
      ∷ process (Set (whole 0 1) (Resize (plain 0) 1 true) ∷ Halt ∷ [])
      ∷ process (Delay (plain 5) ∷ Set (whole 0 1) (One unary.BitNot (read 0) 1 false) ∷ Jump 0 ∷ [])
      ∷ process (Set (whole 1 1) (Resize (plain 1) 1 true) ∷ Getc (whole 3 32) stimulus
      ∷ Unless (Two binary.NotEqual (read 3) (One unary.Minus (plain 1) 32 true) 1 false) 11
      ∷ Set (whole 1 1) (Two binary.Equal (read 3) (plain 82) 1 false) ∷ Await (event Pos 0 None ∷ []) ∷ Delay (plain 1)
      ∷ Show kind.Display 0 ∷ Unless (Two binary.Equal (read 3) (plain 10) 1 false) 9 ∷ Save ∷ Getc (whole 3 32) stimulus ∷ Jump 2
      ∷ Finish 1 ∷ Halt ∷ []) ∷ [];
  shows = record { pieces = piece.Value Time true Now ∷ piece.Plain (codes " ") ∷ piece.Value Dec true (read 2) ∷ []; line = true } ∷ [];
  slots = 4;
  drivers = 3;
}

-- the number of words, and those that are not 0 at time zero
abbrev pub bench_words : ℕ × List (ℕ × ℕ)
bench_words = (128, (2, 1) ∷ (3, 7) ∷ (17, 2) ∷ (18, 2) ∷ (21, 2) ∷ (22, 3) ∷ (25, 2) ∷ (26, 4) ∷ (29, 2) ∷ (30, 5) ∷ (33, 2) ∷ (34, 6) ∷ (37, 2) ∷ (38, 7) ∷ (41, 2) ∷ (44, 1) ∷ (45, 1) ∷ (46, 1) ∷ (47, 1) ∷ (48, 15) ∷ (49, 15) ∷ (50, 4294967295) ∷ (51, 4294967295) ∷ (52, 1) ∷ (53, 1) ∷ (54, 1) ∷ (55, 1) ∷ (56, 15) ∷ (57, 15) ∷ (58, 1) ∷ (59, 1) ∷ (60, 1) ∷ (61, 1) ∷ (62, 15) ∷ (63, 15) ∷ [])

-- what each turn does, from the first on
abbrev pub bench_rows : List Row
bench_rows =
    wrote ((1, 1) ∷ (2, 2) ∷ (17, 5) ∷ (18, 0) ∷ [])
    ∷ wrote ((1, 0) ∷ (17, 1) ∷ [])
    ∷ wrote ((1, 2) ∷ (2, 3) ∷ (21, 5) ∷ (22, 0) ∷ [])
    ∷ wrote ((1, 0) ∷ (21, 1) ∷ [])
    ∷ wrote ((1, 3) ∷ (2, 4) ∷ (25, 5) ∷ (26, 0) ∷ [])
    ∷ wrote ((1, 0) ∷ (25, 1) ∷ [])
    ∷ wrote ((1, 4) ∷ (2, 5) ∷ (29, 5) ∷ (30, 0) ∷ [])
    ∷ wrote ((1, 0) ∷ (29, 1) ∷ [])
    ∷ wrote ((1, 5) ∷ (2, 6) ∷ (33, 5) ∷ (34, 0) ∷ [])
    ∷ wrote ((3, 1) ∷ (17, 2) ∷ (32, 1) ∷ (42, 1) ∷ (44, 0) ∷ (45, 0) ∷ [])
    ∷ wrote ((1, 0) ∷ (33, 0) ∷ [])
    ∷ wrote ((1, 6) ∷ (2, 7) ∷ (37, 5) ∷ (38, 0) ∷ [])
    ∷ wrote ((1, 0) ∷ (8, 6) ∷ (36, 1) ∷ (37, 4) ∷ (39, 5) ∷ [])
    ∷ wrote ((1, 7) ∷ (2, 1) ∷ (41, 5) ∷ (42, 0) ∷ [])
    ∷ wrote ((3, 2) ∷ (18, 2) ∷ (21, 2) ∷ (40, 1) ∷ (47, 0) ∷ [])
    ∷ wrote ((40, 2) ∷ (50, 82) ∷ (51, 0) ∷ [])
    ∷ wrote ((40, 3) ∷ [])
    ∷ wrote ((40, 4) ∷ [])
    ∷ wrote ((1, 0) ∷ (41, 1) ∷ [])
    ∷ wrote ((1, 1) ∷ (2, 2) ∷ (17, 5) ∷ (18, 0) ∷ [])
    ∷ wrote ((1, 0) ∷ (17, 1) ∷ (52, 0) ∷ (53, 0) ∷ (58, 0) ∷ (59, 0) ∷ [])
    ∷ wrote ((1, 2) ∷ (2, 0) ∷ (3, 0) ∷ (21, 5) ∷ [])
    ∷ wrote ((1, 0) ∷ (21, 1) ∷ (55, 0) ∷ (61, 0) ∷ [])
    ∷ wrote ((0, 5) ∷ (2, 6) ∷ (3, 6) ∷ (8, 0) ∷ (37, 2) ∷ (39, 0) ∷ [])
    ∷ wrote ((1, 6) ∷ (2, 0) ∷ (3, 0) ∷ (37, 5) ∷ [])
    ∷ wrote ((2, 1) ∷ (3, 7) ∷ (17, 2) ∷ (18, 7) ∷ (36, 2) ∷ (40, 5) ∷ (41, 2) ∷ (44, 1) ∷ [])
    ∷ wrote ((36, 0) ∷ [])
    ∷ wrote ((1, 0) ∷ (8, 6) ∷ (36, 1) ∷ (37, 4) ∷ (39, 10) ∷ [])
    ∷ wrote ((1, 1) ∷ (2, 7) ∷ (17, 5) ∷ (18, 0) ∷ [])
    ∷ wrote ((1, 0) ∷ (3, 4) ∷ (17, 1) ∷ (28, 1) ∷ (29, 2) ∷ (42, 4) ∷ (52, 1) ∷ (58, 1) ∷ [])
    ∷ wrote ((1, 7) ∷ (2, 4) ∷ (41, 5) ∷ (42, 0) ∷ [])
    ∷ wrote ((1, 0) ∷ (8, 7) ∷ (40, 6) ∷ (41, 4) ∷ (42, 6) ∷ (43, 6) ∷ [])
    ∷ wrote ((1, 4) ∷ (2, 0) ∷ (3, 0) ∷ (29, 5) ∷ [])
    ∷ wrote ((28, 2) ∷ [])
    ∷ wrote ((6, 8) ∷ (7, 8) ∷ (28, 3) ∷ (64, 2) ∷ (67, 6) ∷ (69, 4) ∷ [])
    ∷ wrote ((28, 5) ∷ [])
    ∷ wrote ((28, 0) ∷ [])
    ∷ wrote ((1, 0) ∷ (29, 1) ∷ [])
    ∷ wrote ((2, 8) ∷ (3, 8) ∷ (6, 0) ∷ (7, 0) ∷ [])
    ∷ wrote ((2, 3) ∷ (3, 3) ∷ (25, 2) ∷ (56, 0) ∷ (57, 0) ∷ (64, 0) ∷ (67, 0) ∷ (69, 0) ∷ []) ∷ []

-- the scheduler does that
abbrev pub BenchRuns : Type 0
BenchRuns = (at_zero bench ≡ bench_words) × (rows bench (82 ∷ 10 ∷ []) 40 ≡ bench_rows)
