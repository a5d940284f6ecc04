-- A continuous assignment keeps a state sound.
use Rattle.std.proofs.Common.{◌≡◌, ℕ, zero, suc, ◌+◌, ◌-◌, ◌≤◌, true, List, [], ◌∷◌, length, Option, Some, None, refl, sym, ◌∙◌, ap, subst, arith, slice_get, slice_set, option_map, filter_map, IsSomeAnd}
use Rattle.std.proofs.lemmas.Bool.{and_parts, false≢true}
use Rattle.std.proofs.lemmas.Option.{none-some, same_Some, get_or_from_slice_get}
use Rattle.std.proofs.lemmas.List.{map-set, set-get_or}
use Rattle.std.proofs.Common.{slice_index_or, drop}
use Rattle.std.specs.List.{list_all, range_with_len, cons_option}
use Rattle.vf_fours.specs.declared.Bit.{Bit}
use Rattle.vf_elaborated.specs.declared.design.Signal.{Signal}
use Rattle.vf_elaborated.specs.declared.design.Process.{Process}
use Rattle.vf_elaborated.specs.declared.code.Target.{Target}
use Rattle.vf_elaborated.specs.declared.code.TargetPiece.{TargetPiece}
use Rattle.vf_elaborated.specs.Elaborated.{Elaborated}
use Rattle.vf_elaborated.specs.WellFormed.{IsWellFormed, is_piece, is_piece_of, target_width}
use Rattle.vf_elaborated.specs.Drivers.{target_of, width_of, driver_widths}
use Rattle.vf_scheduler.specs.State.{State}
use Rattle.vf_scheduler.specs.Driving.{net_bits, net_width, resolved, resolved_all, put_driver, driver_takes}
use Rattle.vf_scheduler.specs.Sound.{FitsIn}
use Rattle.vf_scheduler.proofs.Starts.{net_length}
use Rattle.vf_scheduler.proofs.Held.{Held}
use Rattle.vf_scheduler.proofs.Waking.{updated_held}
use Rattle.vf_scheduler.proofs.Assigned.{sized}

-- ---- the driver's value

abbrev own_width : Process → Option ℕ
own_width process = option_map (λ driver. width_of (target_of process)) process.driver

-- the drivers are numbered in the order of their processes
record WidthAt (a k : ℕ) (widths : List ℕ) (width : ℕ) : Type 0 where
  low : a ≤ k
  at : slice_get widths (k - a) ≡ Some width

first_of : (k : ℕ) (a n : ℕ) (rest : List ℕ) → k ∷ rest ≡ range_with_len a n → (k ≡ a) × ((m : ℕ) × (rest ≡ range_with_len (a + 1) m))
first_of k a zero rest h = absurd (cc)
first_of k a (suc n) rest h = (ap (λ l. slice_index_or l 0 a) h, (n, ap (drop 1) h))

width_at : (processes : List Process) (a n p k : ℕ) (process : Process) → filter_map (λ (q : Process). q.driver) processes ≡ range_with_len a n
    → slice_get processes p ≡ Some process → process.driver ≡ Some k → WidthAt a k (filter_map own_width processes) (width_of (target_of process))
width_at [] a n p k process numbered at is = absurd (none-some process at)
width_at (first ∷ rest) a n p k process numbered at is =
    by (λ b m r numbers there. width_at rest b m r k process numbers there is) first.driver refl p at numbered
  where
    by : ((b m r : ℕ) → filter_map (λ (q : Process). q.driver) rest ≡ range_with_len b m → slice_get rest r ≡ Some process
        → WidthAt b k (filter_map own_width rest) (width_of (target_of process)))
        → (driver : Option ℕ) → first.driver ≡ driver → (p : ℕ) → slice_get (first ∷ rest) p ≡ Some process
        → cons_option driver (filter_map (λ (q : Process). q.driver) rest) ≡ range_with_len a n
        → WidthAt a k (cons_option (option_map (λ j. width_of (target_of first)) driver) (filter_map own_width rest)) (width_of (target_of process))
    by later None e zero at numbered = absurd (none-some k (sym e ∙ ap (λ (q : Process). q.driver) (same_Some first process at) ∙ is))
    by later None e (suc p) at numbered = later a n p numbered at
    by later (Some j) e zero at numbered =
        let same = same_Some first process at in
        let number : k ≡ j = same_Some k j (sym is ∙ ap (λ (q : Process). q.driver) (sym same) ∙ e) in
        let lowest = (first_of j a n _ numbered).0 in
        let none : k - a ≡ 0 = omega (arith, number, lowest) in
        record {
          low = omega (arith, number, lowest);
          at = ap (slice_get (width_of (target_of first) ∷ filter_map own_width rest)) none ∙ ap (λ q. Some (width_of (target_of q))) same;
        }
    by later (Some j) e (suc p) at numbered =
        let parts = first_of j a n _ numbered in
        let found = later (a + 1) parts.1.0 p parts.1.1 at in
        let next : k - a ≡ suc (k - (a + 1)) = omega (arith, found.low) in
        record {
          low = omega (arith, found.low);
          at = ap (slice_get (width_of (target_of first) ∷ filter_map own_width rest)) next ∙ found.at;
        }

module _ (d : Elaborated) (wf : IsWellFormed d) where
  driver_kept : (s : State) (driver : Option ℕ) (bits : List Bit) → ((k : ℕ) → driver ≡ Some k → slice_get (driver_widths d) k ≡ Some (length bits))
      → Held d s → Held d (put_driver driver bits s)
  driver_kept s None bits width h = h
  driver_kept s (Some k) bits width h = record {
    shapes = record {
      places = h.shapes.places;
      fits = h.shapes.fits;
      widths =
          map-set length s.drivers k bits ∙ ap (λ ws. slice_set ws k (length bits)) h.shapes.widths
          ∙ ap (slice_set (driver_widths d) k) (sym (get_or_from_slice_get (driver_widths d) k (length bits) 0 (width k refl))) ∙ set-get_or (driver_widths d) k 0;
      slot_count = h.shapes.slot_count;
      holds = h.shapes.holds;
      shows = h.shapes.shows;
      is_due = h.shapes.is_due;
    };
    queue = h.queue;
  }

  -- ---- the nets

  resolved_held : (piece : TargetPiece) (s : State) → is_piece d.signals piece ≡ true → Held d s → Held d (resolved d piece.sig.0 s)
  resolved_held piece s is h =
      by (slice_get d.signals piece.sig.0) refl (and_parts (is_piece_of piece (slice_get d.signals piece.sig.0)) _ is).0
    where
      by : (o : Option Signal) → slice_get d.signals piece.sig.0 ≡ o → is_piece_of piece (slice_get d.signals piece.sig.0) ≡ true → Held d (resolved d piece.sig.0 s)
      by None e known = absurd (false≢true (sym (ap (is_piece_of piece) e) ∙ known))
      by (Some signal) e known =
          let size = sized d piece.sig.0 signal wf e in
          let bits = net_bits d s.drivers piece.sig.0 (net_width (slice_get d.signals piece.sig.0)) in
          let long : length bits ≡ signal.width = net_length d s.drivers piece.sig.0 (net_width (slice_get d.signals piece.sig.0)) ∙ ap net_width e in
          updated_held d wf (record { sig = piece.sig.0; element = 0; low = 0; bits = bits }) s
          (subst (λ o. IsSomeAnd o (FitsIn (record { sig = piece.sig.0; element = 0; low = 0; bits = bits }))) (sym e)
          (record { element = omega (arith, size.some); some = omega (arith, long, size.wide); inside = omega (arith, long) }))
          h

  all_resolved : (pieces : List TargetPiece) (s : State) → list_all (is_piece d.signals) pieces ≡ true → Held d s → Held d (resolved_all d pieces s)
  all_resolved [] s all h = h
  all_resolved (piece ∷ rest) s all h =
      let parts = and_parts (is_piece d.signals piece) (list_all (is_piece d.signals) rest) all in
      all_resolved rest (resolved d piece.sig.0 s) parts.1 (resolved_held piece s parts.0 h)

  pub driven_held : (p : ℕ) (process : Process) (target : Target) (bits : List Bit) (s : State) → slice_get d.processes p ≡ Some process → target_of process ≡ Some target
      → list_all (is_piece d.signals) target.0 ≡ true → length bits ≡ target_width target → Held d s → Held d (driver_takes d process.driver target bits s)
  driven_held p process target bits s at is pieces long h =
      all_resolved target.0 (put_driver process.driver bits s) pieces
      (driver_kept s process.driver bits
      (λ k has.
      let found = width_at d.processes 0 d.drivers p k process wf.drivers at has in
      let zero_less : k ≡ k - 0 = omega arith in
      ap (slice_get (driver_widths d)) zero_less ∙ found.at ∙ ap (λ o. Some (width_of o)) is ∙ ap Some (sym long)) h)
