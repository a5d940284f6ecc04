-- Each instruction of the running process keeps a state sound.
use Rattle.std.proofs.Common.{◌≡◌, ℕ, ◌+◌, ◌<◌, Bool, true, false, List, [], ◌∷◌, length, Option, Some, None, refl, sym, ◌∙◌, ap, subst, arith, slice_get, ◌==◌, if◌then◌else◌, nat_lt, option_and_then, IsSomeAnd}
use Rattle.std.proofs.lemmas.Bool.{and_parts, eqb-true, ltb-true, false≢true}
use Rattle.std.proofs.lemmas.Option.{same_Some, slice_get_within}
use Rattle.std.specs.List.{list_all, list_any}
use Rattle.vf_machine.specs.Machine.{go, Sight}
use Rattle.vf_machine.proofs.CallerLemmas.{KeptBy}
use Rattle.vf_elaborated.specs.declared.design.Signal.{Signal}
use Rattle.vf_elaborated.specs.declared.design.Process.{Process}
use Rattle.vf_elaborated.specs.declared.code.Target.{Target}
use Rattle.vf_elaborated.specs.declared.code.ShowKind.{ShowKind}
use Rattle.vf_elaborated.specs.declared.code.ShowKind.TheVariants.{Write, Display, Strobe}
use Rattle.vf_elaborated.specs.declared.code.Instr.{Instr}
use Rattle.vf_elaborated.specs.declared.code.Instr.TheVariants.{Set, Getc, Post, Drive, Count, Jump, Unless, Match, Delay, Await, Until, Show, Watch, Save, IncSave, Finish, Stop, Halt}
use Rattle.vf_elaborated.specs.declared.expr.Expr.{Expr}
use Rattle.vf_elaborated.specs.Elaborated.{Elaborated}
use Rattle.vf_elaborated.specs.Values.{is_match, is_true, delay_of, rounds_of}
use Rattle.vf_elaborated.specs.Shapes.{Shape, shape_of, is_width}
use Rattle.vf_elaborated.specs.WellFormed.{IsWellFormed, is_process, is_instr, is_drive, ends_code, is_assignment, is_target, is_piece, is_driven, is_expr, is_counter, has_width, target_width}
use Rattle.vf_elaborated.specs.Drivers.{driven_by}
use Rattle.vf_elaborated.proofs.CallerLemmas.{values_shaped, digits_length}
use Rattle.vf_scheduler.specs.State.{State, Waiting, Update, worth, scene_of, instr_at, goes_to, leaves}
use Rattle.vf_scheduler.specs.Updating.{updated_all}
use Rattle.vf_scheduler.specs.Driving.{driver_takes}
use Rattle.vf_scheduler.specs.Performing.{perform, perform_one, now, counter_update, delay_in, driver_of, show_of}
use Rattle.vf_scheduler.specs.Sound.{FitsIn, IsUpdate}
use Rattle.vf_scheduler.proofs.Held.{Held}
use Rattle.vf_scheduler.proofs.Processes.{IsPlace, goes_held, waits_held, ends_held, delayed_held}
use Rattle.vf_scheduler.proofs.Slots.{Updates, post_held, strobe_held}
use Rattle.vf_scheduler.proofs.Codes.{Coded, coded, list_all_at, goes_past, drive_first}
use Rattle.vf_scheduler.proofs.Waking.{updates_held}
use Rattle.vf_scheduler.proofs.Assigned.{assigned_fit}
use Rattle.vf_scheduler.proofs.Driven.{driven_held}

-- the counter of a `repeat`
counter_fits : (d : Elaborated) (sig n : ℕ) → is_counter (slice_get d.signals sig) ≡ true → IsUpdate d (counter_update sig n)
counter_fits d sig n is = by (slice_get d.signals sig) is
  where
    by : (o : Option Signal) → is_counter o ≡ true → IsSomeAnd o (FitsIn (counter_update sig n))
    by None h = absurd (false≢true h)
    by (Some signal) h =
        let parts = and_parts (signal.elements == 1) (signal.width == 64) h in
        let one = eqb-true signal.elements 1 parts.0 in
        let wide = eqb-true signal.width 64 parts.1 in
        let long = digits_length 64 n in
        record { element = omega (arith, one); some = omega (arith, long); inside = omega (arith, long, wide) }

-- a value that is assigned has the width of its target
value_length : (d : Elaborated) (past_end : Bool) (s : State) (e : Expr) (width : ℕ) → Held d s → has_width (shape_of d.signals e) width ≡ true
    → length (worth d past_end s e).bits ≡ width
value_length d past_end s e width h is = by (shape_of d.signals e) refl is
  where
    by : (o : Option Shape) → shape_of d.signals e ≡ o → has_width o width ≡ true → length (worth d past_end s e).bits ≡ width
    by None same w = absurd (false≢true w)
    by (Some shape) same w = (values_shaped d.signals (scene_of past_end s) e shape h.shapes.fits same).width ∙ eqb-true shape.width width w

module _ (d : Elaborated) (wf : IsWellFormed d) (sight : Sight) (p place : ℕ) (s : State) (h : Held d s) (running : s.running ≡ Some p) (process : Process)
    (at : slice_get d.processes p ≡ Some process) (code : Coded d process.code) where
  is_place : (q : ℕ) → q < length process.code → IsPlace d p q
  is_place q below other there = subst (λ (x : Process). q < length x.code) (same_Some process other (sym at ∙ there)) below

  module _ (instr : Instr) (here : slice_get process.code place ≡ Some instr) where
    formed : is_instr d (length process.code) instr ≡ true
    formed = list_all_at (is_instr d (length process.code)) process.code place instr code.instrs here

    stays_here : IsPlace d p place
    stays_here = is_place place (slice_get_within process.code place instr here)

    next_place : ends_code instr ≡ false → IsPlace d p (place + 1)
    next_place more = is_place (place + 1) (goes_past process.code place instr code.ended here more)

    to_next : ends_code instr ≡ false → Held d (goes_to p (place + 1) s)
    to_next more = goes_held d s p (place + 1) h running (next_place more)

    to_place : (q : ℕ) → nat_lt q (length process.code) ≡ true → Held d (goes_to p q s)
    to_place q below = goes_held d s p q h running (is_place q (ltb-true q (length process.code) below))

    to_either : (b : Bool) (q : ℕ) → ends_code instr ≡ false → nat_lt q (length process.code) ≡ true → Held d (goes_to p (if b then place + 1 else q) s)
    to_either true q more below = to_next more
    to_either false q more below = to_place q below

    waits : Held d (leaves p place Waiting s)
    waits = waits_held d s p place h running stays_here

    gives : (updates : List Update) → ends_code instr ≡ false → Updates d updates → Held d (updated_all d updates (goes_to p (place + 1) s))
    gives updates more fit = updates_held d wf updates (goes_to p (place + 1) s) fit (to_next more)

    until_held : (b : Bool) → ends_code instr ≡ false
        → KeptBy (Held d) (if b then go (goes_to p (place + 1) s) [] None else go (leaves p place Waiting s) [] None)
    until_held true more = to_next more
    until_held false more = waits

    show_held : (kind : ShowKind) (show : ℕ) → ends_code instr ≡ false → nat_lt show (length d.shows) ≡ true → KeptBy (Held d) (show_of d sight p place kind show s)
    show_held Write show more is = to_next more
    show_held Display show more is = to_next more
    show_held Strobe show more is = strobe_held d show s (goes_to p (place + 1) s) (to_next more) refl refl (ltb-true show (length d.shows) is)

    watch_held : (show : ℕ) → ends_code instr ≡ false → nat_lt show (length d.shows) ≡ true
        → Held d (record (goes_to p (place + 1) s) { monitor = Some show; due = true })
    watch_held show more is =
        let next = to_next more in
        record {
          shapes = record {
            places = next.shapes.places;
            fits = next.shapes.fits;
            widths = next.shapes.widths;
            slot_count = next.shapes.slot_count;
            holds = next.shapes.holds;
            shows = ltb-true show (length d.shows) is;
            is_due = λ due. refl;
          };
          queue = next.queue;
        }

    drive_held : (target : Target) (e : Expr) → instr ≡ Drive target e
        → Held d (driver_takes d (driver_of d p) target (now d sight p place s e).bits (leaves p place Waiting s))
    drive_held target e is =
        let parts = and_parts (is_assignment d.signals target e) (list_all (is_driven d.signals) target.0) (ap (is_instr d (length process.code)) (sym is) ∙ formed) in
        let assigns = and_parts (is_target d.signals target) (has_width (shape_of d.signals e) (target_width target)) parts.0 in
        let pieces = (and_parts (list_all (is_piece d.signals) target.0) (is_width (target_width target)) assigns.0).0 in
        let first = drive_first process.code place instr code.ended here (ap is_drive is) in
        subst (λ driver. Held d (driver_takes d driver target (now d sight p place s e).bits (leaves p place Waiting s)))
        (sym (ap (option_and_then (λ (x : Process). x.driver)) at))
        (driven_held d wf p process target (now d sight p place s e).bits (leaves p place Waiting s) at (ap driven_by (first ∙ ap Some is)) pieces
        (value_length d sight.past_end s e (target_width target) h assigns.1) waits)

  instruction_held : (instr : Instr) → slice_get process.code place ≡ Some instr → KeptBy (Held d) (perform_one d sight p place s instr)
  instruction_held (Set target e) here = gives (Set target e) here _ refl (assigned_fit d wf (now d sight p place s) target _)
  instruction_held (Getc target e) here = gives (Getc target e) here _ refl (assigned_fit d wf (now d sight p place s) target _)
  instruction_held (Post target e delay) here =
      post_held d (delay_in (now d sight p place s) delay) _ s (goes_to p (place + 1) s) (to_next (Post target e delay) here refl) refl refl
      (assigned_fit d wf (now d sight p place s) target _)
  instruction_held (Drive target e) here = drive_held (Drive target e) here target e refl
  instruction_held (Count sig e) here =
      gives (Count sig e) here (counter_update sig.0 (rounds_of (now d sight p place s e)) ∷ []) refl
      (counter_fits d sig.0 _ (and_parts (is_counter (slice_get d.signals sig.0)) (is_expr d.signals e) (formed (Count sig e) here)).0, tt)
  instruction_held (Jump next) here = to_place (Jump next) here next (formed (Jump next) here)
  instruction_held (Unless e next) here =
      to_either (Unless e next) here (is_true (now d sight p place s e)) next refl
      (and_parts (is_expr d.signals e) (nat_lt next (length process.code)) (formed (Unless e next) here)).1
  instruction_held (Match kind e list next) here =
      to_either (Match kind e list next) here (list_any (λ item. is_match kind (now d sight p place s e) (now d sight p place s item)) list) next refl
      (and_parts _ (nat_lt next (length process.code)) (formed (Match kind e list next) here)).1
  instruction_held (Delay e) here = delayed_held d s p (place + 1) h running (next_place (Delay e) here refl) (delay_of (now d sight p place s e))
  instruction_held (Await events) here = waits (Await events) here
  instruction_held (Until e) here = until_held (Until e) here (is_true (now d sight p place s e)) refl
  instruction_held (Show kind show) here = show_held (Show kind show) here kind show refl (formed (Show kind show) here)
  instruction_held (Watch show) here = watch_held (Watch show) here show refl (formed (Watch show) here)
  instruction_held Save here = to_next Save here refl
  instruction_held IncSave here = to_next IncSave here refl
  instruction_held (Finish n) here = tt
  instruction_held (Stop n) here = tt
  instruction_held Halt here = ends_held d s p place h running (stays_here Halt here)

-- the instruction of the running process
pub performed_held : (d : Elaborated) → IsWellFormed d → (sight : Sight) (p place : ℕ) (s : State) → Held d s → s.running ≡ Some p
    → KeptBy (Held d) (perform d sight p place s (instr_at d p place))
performed_held d wf sight p place s h running = by_process (slice_get d.processes p) refl
  where
    by_instr : (process : Process) → slice_get d.processes p ≡ Some process → (instr : Option Instr) → slice_get process.code place ≡ instr
        → KeptBy (Held d) (perform d sight p place s instr)
    by_instr process at None here = tt
    by_instr process at (Some instr) here =
        instruction_held d wf sight p place s h running process at (coded d process (list_all_at (is_process d) d.processes p process wf.processes at)) instr here

    by_process : (o : Option Process) → slice_get d.processes p ≡ o
        → KeptBy (Held d) (perform d sight p place s (option_and_then (λ (process : Process). slice_get process.code place) o))
    by_process None at = tt
    by_process (Some process) at = by_instr process at (slice_get process.code place) refl
