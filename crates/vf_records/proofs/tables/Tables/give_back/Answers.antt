use Rattle.std.proofs.Common.{◌≡◌, ◌<◌, ◌≤◌, ◌+◌, ◌*◌, ◌∙◌, ◌==◌, not, None, List, [], ◌∷◌, length, map, refl, sym, ap, subst, arith, sum_by, vec_capacity, get_or, length-append}
use Rattle.std.specs.List.{filter, All}
use Rattle.std.proofs.lemmas.List.{length-set}
use Rattle.std.proofs.lemmas.List.Elements.{All-filter}
use Rattle.vf_journal.specs.Holding.{AreDistinct}
use Rattle.vf_journal.specs.Records.{Held}
use Rattle.vf_journal.proofs.CallerLemmas.{distinct_filtered}
use Rattle.vf_records.specs.declared.row.HeldImage.{HeldImage}
use Rattle.vf_records.specs.declared.tables.Tables.{Tables}
use Rattle.vf_records.specs.Account.{solo_of}
use Rattle.vf_records.specs.Tables.{held_of, to_come, records_of, AreTables, AreImaged, ArePinned}
use Rattle.vf_records.proofs.RetireLemmas.{map_filter}
use Rattle.vf_records.proofs.FollowLemmas.{fewer}
use Rattle.vf_records.proofs.ImageTable.{imaged_less, within_found}
use Rattle.vf_records.proofs.PinLemmas.{pinned_less, found_row}
use Rattle.vf_records.proofs.tables.Tables.give_back.Goals as goal

pub release-requires : goal.release-requires
release-requires c =
    let kept = c.requires.tables in
    let images = kept.images in
    let less = within_found c.args.self.now.held.items (length c.args.setup.now.plan) c.args.node.0 kept.within c.requires.image in
    omega (arith, images, less)

pub returns-clause-records : goal.returns-clause-records
returns-clause-records c =
    let t = c.args.self.now in
    let stays = λ (h : HeldImage). not (h.node.0 == c.args.node.0) in
    ap records_of c.release.ensures.rest
    ∙ ap (λ (hs : List Held). record (records_of t) { held = hs })
    (ap (map held_of) c.release.ensures.held ∙ map_filter held_of stays (λ (h : Held). not (h.node.0 == c.args.node.0)) (λ h. refl) t.held.items)

pub returns-clause-tables : goal.returns-clause-tables
returns-clause-tables c =
    let s = c.args.setup.now in
    let t = c.args.self.now in
    let x = c.release.new.self in
    let kept = c.requires.tables in
    let stays = λ (h : HeldImage). not (h.node.0 == c.args.node.0) in
    let less = fewer c.args.node t.held.items c.requires.image in
    let left = ap length c.release.ensures.held in
    let old = ap (λ (y : Tables). length y.journal.items) c.release.ensures.rest in
    let longer = ap length c.push_reserved.ensures.items ∙ length-append x.journal.items (c.args.entry ∷ []) in
    let room = ap (λ (y : Tables). vec_capacity y.journal) c.release.ensures.rest in
    let most : length t.journal.items + sum_by to_come t.progress.items + length t.held.items ≤ 3 * length t.layout.jobs.items = kept.room.most in
    let wide = kept.room.journal in
    let wide_held = kept.room.held in
    subst (λ (y : Tables). AreTables s.plan (solo_of s).counts (record y { held = x.held; images = x.images; pins = x.pins; journal = c.push_reserved.new.self })) (sym c.release.ensures.rest)
    (record {
      layout = kept.layout;
      progress = kept.progress;
      told = kept.told;
      quiet = kept.quiet;
      kinds = kept.kinds;
      first = kept.first;
      counted = subst (All (λ (h : HeldImage). h.counts ≡ (solo_of s).counts (held_of h))) (sym c.release.ensures.held) (All-filter stays (λ (h : HeldImage). h.counts ≡ (solo_of s).counts (held_of h)) t.held.items kept.counted);
      within = subst (All (λ (h : HeldImage). h.node.0 < length s.plan)) (sym c.release.ensures.held) (All-filter stays (λ (h : HeldImage). h.node.0 < length s.plan) t.held.items kept.within);
      imaged = subst (λ (hs : List HeldImage). AreImaged hs x.images.items) (sym c.release.ensures.held)
          (subst (AreImaged (filter stays t.held.items)) (sym c.release.ensures.images)
          (imaged_less t.held.items t.images.items c.args.node kept.imaged
          (let images = kept.images in let inside = within_found t.held.items (length s.plan) c.args.node.0 kept.within c.requires.image in omega (arith, images, inside))));
      images = ap length c.release.ensures.images ∙ length-set t.images.items c.args.node.0 None ∙ kept.images;
      apart = subst (λ (hs : List HeldImage). AreDistinct (map held_of hs)) (sym c.release.ensures.held)
          (subst AreDistinct (sym (map_filter held_of stays (λ (h : Held). not (h.node.0 == c.args.node.0)) (λ h. refl) t.held.items))
          (distinct_filtered (λ (h : Held). not (h.node.0 == c.args.node.0)) (map held_of t.held.items) kept.apart));
      pinned = subst (λ (hs : List HeldImage). ArePinned hs x.pins.items) (sym c.release.ensures.held)
          (pinned_less t.held.items t.images.items t.pins.items x.pins.items c.args.node (get_or t.images.items c.args.node.0 None) kept.apart kept.imaged kept.pinned refl
          (found_row t.held.items t.images.items c.args.node kept.imaged c.requires.image) c.release.ensures.pins_length c.release.ensures.pins);
      pins = c.release.ensures.pins_length ∙ kept.pins;
      numbered = kept.numbered;
      ended = kept.ended;
      ends = kept.ends;
      room = record {
        most = omega (arith, less, left, old, longer, most);
        journal = omega (arith, room, wide, c.push_reserved.ensures.capacity);
        held = omega (arith, wide_held, c.release.ensures.capacity);
      };
    })
