-- Who waits for each signal and who drives each net, and where the words stand, in some designs; found by hand.
--
--     module look;
--       reg [7:0] m [0:3]; reg [1:0] i; reg a; wire [7:0] w;
--       assign w = m[i] + m[i];
--       initial begin wait (m[{a, i[0]}]); @(w or posedge w[0] or a); end
--     endmodule
use Rattle.std.specs.Prelude.{◌≡◌, ℕ, true, false, List, [], ◌∷◌, length, codes, map, pos, Some, None}
use Rattle.std.specs.List.{range_with_len}
use Rattle.vf_fours.specs.declared.BinaryOp.TheVariants as binary
use Rattle.vf_elaborated.specs.declared.code.Edge.TheVariants.{Any, Pos}
use Rattle.vf_elaborated.specs.declared.code.Instr.TheVariants.{Drive, Until, Await, Halt}
use Rattle.vf_elaborated.specs.declared.expr.Expr.TheVariants.{Read, Select, Two, Join}
use Rattle.vf_elaborated.specs.Elaborated.{Elaborated}
use Rattle.vf_elaborated.specs.Layout.{address_of}
use Rattle.vf_elaborated.specs.Addresses.{thread_at, driver_at, slot_at, link_at, has_wide, word_count}
use Rattle.vf_elaborated.specs.Tables.{watchers_of, drivers_of}
use Rattle.vf_scheduler_tests.specs.Writing.{variable, net, memory, plain, read, whole, event, process, driving}
use Rattle.vf_scheduler_tests.specs.Res.{res}
use Rattle.vf_scheduler_tests.specs.Bench.{bench}
use Rattle.vf_scheduler_tests.specs.Wide.{wide}
use Rattle.vf_scheduler_tests.specs.Mix.{mix}

abbrev pub look : Elaborated
look = record {
  top = codes "look";
  signals = memory (codes "look.m") 8 4 ∷ variable (codes "look.i") 2 false ∷ variable (codes "look.a") 1 false ∷ net (codes "look.w") 8 ∷ [];
  processes =
      driving 0 (Drive (whole 3 8) (Two binary.Add (Read (record { 0 = 0 }) (Some (read 1))) (Read (record { 0 = 0 }) (Some (read 1))) 8 false))
      ∷ process (Until (Read (record { 0 = 0 }) (Some (Join (read 2 ∷ Select (read 1) (plain 0) (pos 1) (pos 0) 1 ∷ []) 2)))
      ∷ Await (event Any 3 None ∷ event Pos 3 (Some 0) ∷ event Any 2 None ∷ []) ∷ Halt ∷ []) ∷ [];
  shows = [];
  slots = 3;
  drivers = 1;
}

abbrev pub all_watchers : Elaborated → List (List ℕ)
all_watchers d = map (watchers_of d) (range_with_len 0 (length d.signals))

abbrev pub all_drivers : Elaborated → List (List ℕ)
all_drivers d = map (drivers_of d) (range_with_len 0 (length d.signals))

abbrev pub alone : ℕ → List ℕ
alone p = p ∷ []

-- for each signal by its number
pub record AreWatched : Type 0 where
  pub of_look : all_watchers look ≡ (0 ∷ 1 ∷ []) ∷ (0 ∷ 1 ∷ []) ∷ alone 1 ∷ alone 1 ∷ []
  pub of_mix : all_watchers mix ≡ (1 ∷ 2 ∷ []) ∷ [] ∷ [] ∷ alone 2 ∷ []
  pub of_wide : all_watchers wide ≡ [] ∷ [] ∷ (0 ∷ 1 ∷ 2 ∷ []) ∷ [] ∷ alone 2 ∷ []
  pub of_bench : all_watchers bench ≡ (0 ∷ 6 ∷ []) ∷ alone 1 ∷ [] ∷ [] ∷ alone 3 ∷ [] ∷ alone 2 ∷ []

pub record AreDriven : Type 0 where
  pub of_look : all_drivers look ≡ [] ∷ [] ∷ [] ∷ alone 0 ∷ []
  pub of_res : all_drivers res ≡ (0 ∷ 1 ∷ []) ∷ (2 ∷ 3 ∷ []) ∷ []
  pub of_wide : all_drivers wide ≡ [] ∷ [] ∷ [] ∷ alone 0 ∷ alone 1 ∷ []
  pub of_bench : all_drivers bench ≡ [] ∷ [] ∷ alone 2 ∷ [] ∷ alone 0 ∷ alone 1 ∷ [] ∷ []

-- the last element of the memory, a driver, a process, the slots, the links, the end
pub record StandThere : Type 0 where
  pub elements : (address_of look 0 3 ≡ 30) × (address_of wide 1 0 ≡ 36)
  pub drivers : (map (driver_at look) (0 ∷ []) ≡ 38 ∷ []) × (map (driver_at wide) (0 ∷ 1 ∷ []) ≡ 46 ∷ 48 ∷ [])
  pub threads : thread_at 2 ≡ 24
  pub slots : (map (slot_at look) (0 ∷ 1 ∷ 2 ∷ []) ≡ 40 ∷ 48 ∷ 56 ∷ []) × (map (slot_at wide) (0 ∷ 3 ∷ []) ≡ 50 ∷ 80 ∷ [])
  pub links : (map (link_at look) (0 ∷ 1 ∷ 2 ∷ 4 ∷ []) ≡ 18 ∷ 22 ∷ 41 ∷ 57 ∷ []) × (map (link_at wide) (2 ∷ 5 ∷ []) ≡ 26 ∷ 71 ∷ [])
  pub slots_are : (has_wide look ≡ false) × (has_wide wide ≡ true)
  pub counts : (word_count look ≡ 64) × (word_count wide ≡ 128)

pub record TablesAre : Type 0 where
  pub watchers : AreWatched
  pub drivers : AreDriven
  pub words : StandThere
