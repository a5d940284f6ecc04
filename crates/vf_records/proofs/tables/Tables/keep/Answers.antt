use Rattle.std.proofs.Common.{◌≡◌, ◌<◌, ◌≤◌, ◌+◌, ◌*◌, ◌∙◌, List, [], ◌∷◌, ◌++◌, Some, None, ◌==◌, length, map, sym, ap, ap₂, subst, arith, sum_by, append_assoc, length-append}
use Rattle.std.specs.List.{All, find}
use Rattle.std.proofs.lemmas.List.{map-append, length-set}
use Rattle.std.proofs.lemmas.List.Elements.{All-push}
use Rattle.vf_base.specs.declared.names.Job.TheVariants.{Reach}
use Rattle.vf_jobs.specs.Jobs.{node_no}
use Rattle.vf_journal.specs.declared.entry.Entry.{Entry}
use Rattle.vf_journal.specs.declared.entry.Entry.TheVariants.{Saved}
use Rattle.vf_journal.specs.declared.entry.Kind.TheVariants as kinds
use Rattle.vf_journal.specs.Holding.{AreDistinct}
use Rattle.vf_journal.specs.Records.{Held, Records}
use Rattle.vf_journal.specs.Effects.{with_over, retirings, without_unneeded, is_retired}
use Rattle.vf_records.specs.declared.layout.Layout.{Layout}
use Rattle.vf_records.specs.declared.row.HeldImage.{HeldImage}
use Rattle.vf_records.specs.Account.{farm_of, solo_of}
use Rattle.vf_records.specs.Tables.{held_of, to_come, records_of, AreImaged, ArePinned}
use Rattle.vf_records.proofs.EventLemmas.{placed_job}
use Rattle.vf_records.proofs.ImageTable.{imaged_more, none_rows}
use Rattle.vf_records.proofs.PinLemmas.{distinct_last, pinned_more}
use Rattle.vf_records.proofs.ServeLemmas.{saved_way}
use Rattle.vf_records.proofs.tables.Tables.keep.Goals as goal

pub show-requires : goal.show-requires
show-requires c =
    let placed = placed_job c.args.setup.now (solo_of c.args.setup.now).counts c.args.self.now c.requires.tables (Reach c.args.image.node) c.requires.job in
    let node = placed.node in
    let long = c.requires.tables.layout.long in
    let images = c.close.ensures.tables.images in
    omega (arith, node, long, images)

pub retire-requires-clause-tables : goal.retire-requires-clause-tables
retire-requires-clause-tables c =
    let s = c.args.setup.now in
    let t = c.args.self.now in
    let x = c.close.new.self in
    let kept = c.close.ensures.tables in
    let image = c.args.image in
    let placed = placed_job s (solo_of s).counts t c.requires.tables (Reach image.node) c.requires.job in
    let node = placed.node in
    let long = c.requires.tables.layout.long in
    let same = ap (λ (l : Layout). length l.jobs.items) c.close.ensures.layout in
    let slack : length x.journal.items + sum_by to_come x.progress.items + length x.held.items + 1 ≤ length t.journal.items + sum_by to_come t.progress.items + length t.held.items = c.close.ensures.slack in
    let most : length t.journal.items + sum_by to_come t.progress.items + length t.held.items ≤ 3 * length t.layout.jobs.items = c.requires.tables.room.most in
    let longer = ap length c.push_reserved.ensures.items ∙ length-append x.held.items (image ∷ []) in
    let wide = kept.room.held in
    record {
      layout = kept.layout;
      progress = kept.progress;
      told = kept.told;
      quiet = kept.quiet;
      kinds = kept.kinds;
      first = kept.first;
      counted = subst (All (λ (h : HeldImage). h.counts ≡ (solo_of s).counts (held_of h))) (sym c.push_reserved.ensures.items) (All-push (λ (h : HeldImage). h.counts ≡ (solo_of s).counts (held_of h)) x.held.items image kept.counted c.requires.counts);
      within = subst (All (λ (h : HeldImage). h.node.0 < length s.plan)) (sym c.push_reserved.ensures.items) (All-push (λ (h : HeldImage). h.node.0 < length s.plan) x.held.items image kept.within (omega (arith, node, long)));
      imaged = subst (λ (hs : List HeldImage). AreImaged hs c.show.new.images.items) (sym c.push_reserved.ensures.items)
          (subst (AreImaged (x.held.items ++ image ∷ [])) (sym c.show.ensures)
          (imaged_more x.held.items x.images.items image kept.imaged (omega (arith, node, long, kept.images))
          (none_rows x.held.items image.node.0 (ap (λ (r : Records). find (λ (h : Held). h.node.0 == image.node.0) r.held) c.close.ensures.records ∙ c.requires.free))));
      images = ap length c.show.ensures ∙ length-set x.images.items image.node.0 (Some image) ∙ kept.images;
      apart = subst (λ (hs : List HeldImage). AreDistinct (map held_of hs)) (sym c.push_reserved.ensures.items)
          (subst AreDistinct (sym (map-append held_of x.held.items (image ∷ [])))
          (distinct_last (map held_of x.held.items) (held_of image) kept.apart
          (ap (λ (r : Records). find (λ (h : Held). h.node.0 == image.node.0) r.held) c.close.ensures.records ∙ c.requires.free)));
      pinned = subst (λ (hs : List HeldImage). ArePinned hs c.pin.new.pins.items) (sym c.push_reserved.ensures.items)
          (pinned_more x.held.items x.pins.items c.pin.new.pins.items image kept.pinned (omega (arith, wide, most, slack, same, x.held.ok.0)) c.pin.ensures.length c.pin.ensures.counted);
      pins = c.pin.ensures.length ∙ kept.pins;
      numbered = kept.numbered;
      ended = kept.ended;
      ends = kept.ends;
      room = record {
        most = omega (arith, slack, most, longer, same);
        journal = kept.room.journal;
        held = omega (arith, wide, c.push_reserved.ensures.capacity);
      };
    }

pub retire-requires-clause-last : goal.retire-requires-clause-last
retire-requires-clause-last c =
    let placed = placed_job c.args.setup.now (solo_of c.args.setup.now).counts c.args.self.now c.requires.tables (Reach c.args.image.node) c.requires.job in
    let node = placed.node in
    let long = c.requires.tables.layout.long in
    omega (arith, node, long)

pub retire-requires-clause-way : goal.retire-requires-clause-way
retire-requires-clause-way c = λ n gone other.
    let s = c.args.setup.now in
    let t = c.args.self.now in
    let x = c.close.new.self in
    let image = c.args.image in
    let grown : map held_of c.push_reserved.new.self.items ≡ (records_of t).held ++ held_of image ∷ [] =
    ap (map held_of) c.push_reserved.ensures.items ∙ map-append held_of x.held.items (image ∷ []) ∙ ap (λ (r : Records). r.held ++ held_of image ∷ []) c.close.ensures.records in
    let same = ap₂ (λ (r : Records) (hs : List Held). record r { held = hs }) c.close.ensures.records grown in
    saved_way s (records_of t) (held_of image) (kinds.Saved image.counts.turns) c.requires.serve n (ap (λ (r : Records). is_retired (farm_of s) r (node_no n)) (sym same) ∙ gone)
    (λ is. other (omega (arith, is)) (omega (arith, is)))

pub returns-clause-records : goal.returns-clause-records
returns-clause-records c =
    let s = c.args.setup.now in
    let t = c.args.self.now in
    let x = c.close.new.self in
    let image = c.args.image in
    let grown : map held_of c.push_reserved.new.self.items ≡ (records_of t).held ++ held_of image ∷ [] =
    ap (map held_of) c.push_reserved.ensures.items ∙ map-append held_of x.held.items (image ∷ []) ∙ ap (λ (r : Records). r.held ++ held_of image ∷ []) c.close.ensures.records in
    c.retire.ensures.records ∙ ap (without_unneeded (farm_of s)) (ap₂ (λ (r : Records) (hs : List Held). record r { held = hs }) c.close.ensures.records grown)

pub returns-clause-journal : goal.returns-clause-journal
returns-clause-journal c =
    let s = c.args.setup.now in
    let t = c.args.self.now in
    let x = c.close.new.self in
    let image = c.args.image in
    let entry = Saved image.node image.counts.turns image.pages image.base in
    let grown : map held_of c.push_reserved.new.self.items ≡ (records_of t).held ++ held_of image ∷ [] =
    ap (map held_of) c.push_reserved.ensures.items ∙ map-append held_of x.held.items (image ∷ []) ∙ ap (λ (r : Records). r.held ++ held_of image ∷ []) c.close.ensures.records in
    let new : Records = record (with_over (Reach image.node) None (kinds.Saved image.counts.turns) (records_of t)) { held = (records_of t).held ++ held_of image ∷ [] } in
    c.retire.ensures.journal
    ∙ ap₂ (λ (js : List Entry) (r : Records). js ++ retirings (farm_of s) r) c.close.ensures.journal (ap₂ (λ (r : Records) (hs : List Held). record r { held = hs }) c.close.ensures.records grown)
    ∙ append_assoc t.journal.items (entry ∷ []) (retirings (farm_of s) new)
