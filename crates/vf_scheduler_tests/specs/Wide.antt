-- The design `wide`: a memory, a value of 100 bits, nets driven in part, a nonblocking assignment with a delay, and a strobe.
--
--     module wide;
--       reg [7:0] m [0:3]; reg signed [99:0] big; reg [0:3] up; wire [3:0] w, n;
--       assign w = up, n[2:1] = {up[0], 1'bz};
--       initial begin
--         up = 4'b10x1;
--         m[2] = 8'd200 + 8'd100;
--         m[up[3]] <= #3 8'hz5;
--         big = -100'sd3;
--         big[98 -: 3] <= 3'b010;
--         @(n or up[3]) $strobe("%b %0d %h", n, big, m[1]);
--         {up[1:2], m[3]} = 10'h2a5;
--       end
--     endmodule
use Rattle.std.specs.Prelude.{◌≡◌, ℕ, true, false, List, [], ◌∷◌, ◌++◌, codes, Some, None, pos, negsuc}
use Rattle.vf_base.specs.declared.run.Ending.TheVariants.{Drained}
use Rattle.vf_fours.specs.declared.Bit.TheVariants.{Zero, One as One', X, Z}
use Rattle.vf_fours.specs.declared.UnaryOp.TheVariants as unary
use Rattle.vf_fours.specs.declared.BinaryOp.TheVariants as binary
use Rattle.vf_format.specs.declared.format.Form.TheVariants.{Dec, Hex, Bin}
use Rattle.vf_elaborated.specs.declared.design.Piece.TheVariants as piece
use Rattle.vf_elaborated.specs.declared.code.Edge.TheVariants.{Any}
use Rattle.vf_elaborated.specs.declared.code.ShowKind.TheVariants as kind
use Rattle.vf_elaborated.specs.declared.code.Instr.TheVariants.{Set, Post, Drive, Await, Show, Halt}
use Rattle.vf_elaborated.specs.declared.expr.Expr.{Expr}
use Rattle.vf_elaborated.specs.declared.expr.Expr.TheVariants.{Read, Select, One, Two, Join}
use Rattle.vf_elaborated.specs.Elaborated.{Elaborated}
use Rattle.vf_scheduler_tests.specs.Rows.{Row, rows, at_zero}
use Rattle.vf_scheduler_tests.specs.Writing.{variable, net, memory, number, signed_number, plain, bits, read, whole, element_piece, part_piece, to, event, process, driving, wrote, printed, over}

-- a bit of `up`, which counts up from its top bit
abbrev up_bit : ℕ → Expr
up_bit index = Select (read 2) (plain index) (negsuc 0) (pos 3) 1

abbrev pub wide : Elaborated
wide = record {
  top = codes "wide";
  signals =
      memory (codes "wide.m") 8 4 ∷ variable (codes "wide.big") 100 true ∷ record (variable (codes "wide.up") 4 false) { left = pos 0; right = pos 3 }
      ∷ net (codes "wide.w") 4 ∷ net (codes "wide.n") 4 ∷ [];
  processes =
      driving 0 (Drive (whole 3 4) (read 2))
      ∷ driving 1 (Drive (to (part_piece 4 (plain 1) (pos 1) (pos 0) 2)) (Join (up_bit 0 ∷ bits (Z ∷ []) ∷ []) 2))
      ∷ process (Set (whole 2 4) (bits (One' ∷ X ∷ Zero ∷ One' ∷ []))
      ∷ Set (to (element_piece 0 (plain 2) 8)) (Two binary.Add (number 8 200) (number 8 100) 8 false)
      ∷ Post (to (element_piece 0 (up_bit 3) 8)) (bits (One' ∷ Zero ∷ One' ∷ Zero ∷ Z ∷ Z ∷ Z ∷ Z ∷ [])) (Some (plain 3))
      ∷ Set (whole 1 100) (One unary.Minus (signed_number 100 3) 100 true)
      ∷ Post (to (part_piece 1 (plain 98) (pos 1) (negsuc 1) 3)) (number 3 2) None
      ∷ Await (event Any 4 None ∷ event Any 2 (Some 0) ∷ []) ∷ Show kind.Strobe 0
      ∷ Set (record { 0 = part_piece 2 (plain 2) (negsuc 0) (pos 3) 2 ∷ element_piece 0 (plain 3) 8 ∷ [] }) (number 10 677) ∷ Halt ∷ []) ∷ [];
  shows =
      record {
        pieces = piece.Value Bin false (read 4) ∷ piece.Plain (codes " ") ∷ piece.Value Dec true (read 1) ∷ piece.Plain (codes " ")
            ∷ piece.Value Hex false (Read (record { 0 = 0 }) (Some (plain 1))) ∷ [];
        line = true;
      } ∷ [];
  slots = 4;
  drivers = 2;
}

-- the number of words, and those that are not 0 at time zero
abbrev pub wide_words : ℕ × List (ℕ × ℕ)
wide_words = (128, (2, 1) ∷ (3, 3) ∷ (17, 2) ∷ (18, 2) ∷ (21, 2) ∷ (22, 3) ∷ (25, 2) ∷ (28, 255) ∷ (29, 255) ∷ (30, 255) ∷ (31, 255) ∷ (32, 255) ∷ (33, 255) ∷ (34, 255) ∷ (35, 255) ∷ (36, 18446744073709551615) ∷ (37, 18446744073709551615) ∷ (38, 68719476735) ∷ (39, 68719476735) ∷ (40, 15) ∷ (41, 15) ∷ (42, 15) ∷ (43, 15) ∷ (44, 6) ∷ (45, 15) ∷ (46, 15) ∷ (47, 15) ∷ (48, 3) ∷ (49, 3) ∷ [])

-- what each turn does, from the first on
abbrev pub wide_rows : List Row
wide_rows =
    wrote ((1, 1) ∷ (2, 2) ∷ (17, 5) ∷ (18, 0) ∷ [])
    ∷ wrote ((1, 0) ∷ (17, 1) ∷ [])
    ∷ wrote ((1, 2) ∷ (2, 3) ∷ (21, 5) ∷ (22, 0) ∷ [])
    ∷ wrote ((1, 0) ∷ (21, 1) ∷ (44, 4) ∷ (48, 2) ∷ [])
    ∷ wrote ((1, 3) ∷ (2, 0) ∷ (3, 0) ∷ (25, 5) ∷ [])
    ∷ wrote ((2, 1) ∷ (3, 2) ∷ (17, 2) ∷ (18, 2) ∷ (21, 2) ∷ (24, 1) ∷ (40, 11) ∷ (41, 2) ∷ [])
    ∷ wrote ((24, 2) ∷ (32, 44) ∷ (33, 0) ∷ [])
    ∷ wrote ((8, 4) ∷ (24, 3) ∷ (50, 1) ∷ (52, 3) ∷ (54, 1) ∷ (55, 8) ∷ (56, 5) ∷ (57, 240) ∷ [])
    ∷ wrote ((24, 4) ∷ (36, 18446744073709551613) ∷ (37, 0) ∷ (39, 0) ∷ [])
    ∷ wrote ((6, 5) ∷ (7, 5) ∷ (24, 5) ∷ (60, 2) ∷ (63, 1) ∷ (65, 24579) ∷ (66, 2) ∷ [])
    ∷ wrote ((1, 0) ∷ (25, 1) ∷ [])
    ∷ wrote ((1, 1) ∷ (2, 2) ∷ (17, 5) ∷ (18, 0) ∷ [])
    ∷ wrote ((1, 0) ∷ (17, 1) ∷ (42, 11) ∷ (43, 2) ∷ (46, 11) ∷ (47, 2) ∷ [])
    ∷ wrote ((1, 2) ∷ (2, 0) ∷ (3, 0) ∷ (21, 5) ∷ [])
    ∷ wrote ((1, 0) ∷ (2, 3) ∷ (3, 3) ∷ (21, 1) ∷ (24, 6) ∷ (25, 2) ∷ (45, 11) ∷ (49, 1) ∷ [])
    ∷ wrote ((1, 3) ∷ (2, 0) ∷ (3, 0) ∷ (25, 5) ∷ [])
    ∷ wrote ((9, 6) ∷ (10, 6) ∷ (24, 7) ∷ (70, 3) ∷ [])
    ∷ wrote ((2, 1) ∷ (3, 2) ∷ (17, 2) ∷ (18, 2) ∷ (21, 2) ∷ (24, 8) ∷ (34, 165) ∷ (35, 0) ∷ (40, 13) ∷ (41, 0) ∷ [])
    ∷ wrote ((1, 0) ∷ (25, 0) ∷ [])
    ∷ wrote ((1, 1) ∷ (2, 2) ∷ (17, 5) ∷ (18, 0) ∷ [])
    ∷ wrote ((1, 0) ∷ (17, 1) ∷ (42, 13) ∷ (43, 0) ∷ (46, 13) ∷ (47, 0) ∷ [])
    ∷ wrote ((1, 2) ∷ (2, 0) ∷ (3, 0) ∷ (21, 5) ∷ [])
    ∷ wrote ((1, 0) ∷ (21, 1) ∷ [])
    ∷ wrote ((2, 5) ∷ (3, 5) ∷ (6, 0) ∷ (7, 0) ∷ [])
    ∷ wrote ((2, 0) ∷ (3, 0) ∷ (38, 47244640255) ∷ (60, 0) ∷ (63, 0) ∷ (65, 0) ∷ (66, 0) ∷ [])
    ∷ printed ((9, 0) ∷ (10, 0) ∷ (70, 0) ∷ []) (codes "z1zz -396140812571321687967719751683 xx" ++ 10 ∷ [])
    ∷ wrote ((0, 3) ∷ (6, 4) ∷ (7, 4) ∷ (8, 0) ∷ (50, 2) ∷ (52, 0) ∷ [])
    ∷ wrote ((2, 4) ∷ (3, 4) ∷ (6, 0) ∷ (7, 0) ∷ [])
    ∷ wrote ((2, 0) ∷ (3, 0) ∷ (30, 5) ∷ (31, 240) ∷ (50, 0) ∷ (54, 0) ∷ (55, 0) ∷ (56, 0) ∷ (57, 0) ∷ [])
    ∷ over Drained ∷ []

-- the scheduler does that
abbrev pub WideRuns : Type 0
WideRuns = (at_zero wide ≡ wide_words) × (rows wide ([]) 30 ≡ wide_rows)
