-- The tables, by computing.
use Rattle.std.proofs.Common.{refl, arith}
use Rattle.std.specs.Prelude.{◌≡◌, ◌≤◌, ◌^◌, true, length}
use Rattle.std.specs.List.{list_all, filter_map, range_with_len, sum_by}
use Rattle.vf_elaborated.specs.declared.design.Process.{Process}
use Rattle.vf_elaborated.specs.Elaborated.{Elaborated}
use Rattle.vf_elaborated.specs.WellFormed.{IsWellFormed, is_signal, is_process, is_show, memory_elements}
use Rattle.vf_scheduler_tests.specs.Swap.{swap, SwapRuns}
use Rattle.vf_scheduler_tests.specs.Mon.{mon, MonRuns}
use Rattle.vf_scheduler_tests.specs.Res.{res, ResRuns}
use Rattle.vf_scheduler_tests.specs.Flood.{flood, FloodRuns}
use Rattle.vf_scheduler_tests.specs.Bench.{bench, BenchRuns}
use Rattle.vf_scheduler_tests.specs.Wide.{wide, WideRuns}
use Rattle.vf_scheduler_tests.specs.Mix.{mix, MixRuns}
use Rattle.vf_scheduler_tests.specs.Cases.{CasesAre}
use Rattle.vf_scheduler_tests.specs.Formed.{FormedAsSaid}
use Rattle.vf_scheduler_tests.proofs.Computing.{everything}

pub swap_runs : SwapRuns
unfolding everything
swap_runs = (refl, refl)

pub mon_runs : MonRuns
unfolding everything
mon_runs = (refl, refl)

pub res_runs : ResRuns
unfolding everything
res_runs = (refl, refl)

pub flood_runs : FloodRuns
unfolding everything
flood_runs = (refl, refl)

pub bench_runs : BenchRuns
unfolding everything
bench_runs = (refl, refl)

pub wide_runs : WideRuns
unfolding everything
wide_runs = (refl, refl)

pub cases_are : CasesAre
unfolding everything
cases_are = record {
  delays = refl;
  rounds = refl;
  descriptors = refl;
  past_ends = refl;
  edges = (refl, refl);
  matches = (refl, refl, refl);
  truths = refl;
  choices = (refl, refl, refl);
  elements = refl;
  lows = refl;
  parts = refl;
  overwrites = refl;
  spreads = refl;
  futures = (refl, refl, refl);
  lates = (refl, refl);
}

pub mix_runs : MixRuns
unfolding everything
mix_runs = (refl, refl)

-- a well-formed design, part by part
formed : (d : Elaborated) → list_all is_signal d.signals ≡ true → list_all (is_process d) d.processes ≡ true → list_all (is_show d.signals) d.shows ≡ true
    → filter_map (λ (process : Process). process.driver) d.processes ≡ range_with_len 0 d.drivers → (1 ≤ d.slots) × (d.slots ≤ 16384)
    → length d.signals ≤ 8192 → length d.processes ≤ 4096 → sum_by memory_elements d.signals ≤ 2 ^ 18 → IsWellFormed d
formed d signals processes shows drivers slots few_signals few_processes few_elements = record {
  signals = signals;
  processes = processes;
  shows = shows;
  drivers = drivers;
  slots = slots;
  few_signals = few_signals;
  few_processes = few_processes;
  few_elements = few_elements;
}

pub formed_as_said : FormedAsSaid
unfolding everything
formed_as_said = record {
  formed = record {
    is_swap = formed swap refl refl refl refl (omega arith, omega arith) (omega arith) (omega arith) (omega arith);
    is_mon = formed mon refl refl refl refl (omega arith, omega arith) (omega arith) (omega arith) (omega arith);
    is_res = formed res refl refl refl refl (omega arith, omega arith) (omega arith) (omega arith) (omega arith);
    is_flood = formed flood refl refl refl refl (omega arith, omega arith) (omega arith) (omega arith) (omega arith);
    is_bench = formed bench refl refl refl refl (omega arith, omega arith) (omega arith) (omega arith) (omega arith);
    is_wide = formed wide refl refl refl refl (omega arith, omega arith) (omega arith) (omega arith) (omega arith);
    is_mix = formed mix refl refl refl refl (omega arith, omega arith) (omega arith) (omega arith) (omega arith);
  };
  expressions = refl;
  instructions = refl;
  processes = refl;
  signals = refl;
}
