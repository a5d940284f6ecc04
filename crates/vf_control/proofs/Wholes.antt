-- Each reader and its rule.
use Rattle.std.proofs.Common.{ℕ}
use Rattle.vf_control.specs.Reading.{ReadingsAreControls}
use Rattle.vf_control.proofs.Sound.{target_is, delay_is, events_are, task_is}
use Rattle.vf_control.proofs.Complete.{target_again, delay_again, events_again, task_again}

pub readings_are : (d : ℕ) → ReadingsAreControls d
readings_are d = record {
  target = record { sound = λ ts x e. target_is d 201 ts x e; complete = λ n ts rest a is small ends. target_again d 201 n ts rest a is small ends };
  delay = record { sound = λ ts x e. delay_is d ts x e; complete = λ n ts rest a is small ends. delay_again d n ts rest a is };
  events_after = record { sound = λ ts x e. events_are d ts x e; complete = λ n ts rest a is small ends. events_again d n ts rest a is small };
  task = record { sound = λ ts x e. task_is d ts x e; complete = λ n ts rest a is small ends. task_again d n ts rest a is small ends };
}
