-- A sound state has what the laws of words ask for.
use Rattle.std.proofs.Common.{◌≡◌, ◌<◌, ◌≤◌, false, length, refl, ap, arith, ⊎_elim}
use Rattle.std.proofs.lemmas.Bool.{cases_lt}
use Rattle.std.proofs.lemmas.List.{get_or_past}
use Rattle.std.proofs.lemmas.Slice.Zip.{AllZip-long}
use Rattle.vf_elaborated.specs.declared.design.Process.{Process}
use Rattle.vf_elaborated.specs.Elaborated.{Elaborated}
use Rattle.vf_scheduler.specs.State.{State, Status, Halted, Waiting, Active, Inactive, Future, Running, Thread, no_thread, thread_of, Slot, Free, Later, Due, Strobed, Item, of_process, of_slot}
use Rattle.vf_scheduler.specs.Posting.{is_free}
use Rattle.vf_scheduler.specs.Sound.{times, events, listed, slot_listed, slot_of, IsSound}
use Rattle.vf_layout.specs.Addresses.{HasShape}
use Rattle.vf_layout.specs.Regions.{HasLink}
use Rattle.vf_layout.specs.Laws.{SoundIsWritten}

few : (status : Status) → listed status ≤ 1
few Halted = omega arith
few Waiting = omega arith
few Active = omega arith
few Inactive = omega arith
few (Future at) = omega arith
few Running = omega arith

slot_few : (slot : Slot) → slot_listed slot ≤ 1
slot_few Free = omega arith
slot_few (Later at u) = omega arith
slot_few (Due u) = omega arith
slot_few (Strobed show) = omega arith

holds : (slot : Slot) → 1 ≤ slot_listed slot → is_free slot ≡ false
holds Free some = absurd (omega (arith, some))
holds (Later at u) some = refl
holds (Due u) some = refl
holds (Strobed show) some = refl

module _ (d : Elaborated) (s : State) (sound : IsSound d s) where
  shape : HasShape d s
  shape = record {
    threads = AllZip-long (λ (process : Process) (thread : Thread). thread.place < length process.code) d.processes s.threads sound.threads;
    values = sound.values;
    drivers = sound.drivers;
    slots = sound.slot_count;
  }

  once : (item : Item) → times item (events s) ≤ 1
  once (of_process p) = omega (arith, (sound.processes_stand p).alone, few (thread_of s p).status)
  once (of_slot q) = omega (arith, (sound.slots_stand q).alone, slot_few (slot_of s q))

  linked : (item : Item) → 1 ≤ times item (events s) → HasLink d s item
  linked (of_process p) some =
      ⊎_elim (λ below. omega (arith, below, shape.threads))
      (λ past.
      let none = ap (λ (thread : Thread). listed thread.status) (get_or_past s.threads p no_thread past) in
      let often = (sound.processes_stand p).alone in
      absurd (omega (arith, some, often, none)))
      (cases_lt p (length s.threads))
  linked (of_slot q) some =
      let often = (sound.slots_stand q).alone in (
        ⊎_elim (λ below. omega (arith, below, shape.slots))
            (λ past.
            let none = ap slot_listed (get_or_past s.slots q Free past) in
            absurd (omega (arith, some, often, none)))
            (cases_lt q (length s.slots)),
        holds (slot_of s q) (omega (arith, some, often)),
      )

pub sound_written : SoundIsWritten
sound_written d s sound = record { shape = shape d s sound; queued = record { once = once d s sound; linked = linked d s sound } }
