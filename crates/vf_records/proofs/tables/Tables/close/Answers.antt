use Rattle.std.proofs.Common.{◌≡◌, ℕ, ◌<◌, ◌≤◌, ◌+◌, ◌*◌, ◌∙◌, List, [], ◌∷◌, Some, length, sym, ap, ap₂, subst, arith, slice_get, slice_set, get_or, sum_by, length-append}
use Rattle.std.proofs.lemmas.Bool.{false≢true}
use Rattle.std.proofs.lemmas.List.{length-set}
use Rattle.vf_records.specs.declared.row.Progress.TheVariants as rows
use Rattle.vf_plan.specs.declared.plan.Node.{Node}
use Rattle.vf_plan.specs.Rules.{IsPlan}
use Rattle.vf_jobs.specs.Subtree.{is_below}
use Rattle.vf_records.specs.Account.{solo_of}
use Rattle.vf_records.specs.Counts.{is_over_progress, one, over_below}
use Rattle.vf_records.proofs.CountLemmas.{one_most, over_more, over_within}
use Rattle.vf_records.specs.Layout.{place_in}
use Rattle.vf_records.specs.Tables.{to_come, IsQuiet}
use Rattle.vf_records.proofs.TableLemmas.{quiet_set}
use Rattle.vf_records.proofs.EventLemmas.{placed_job, not_over_at, over_set, spent_at, closed, kinds_long}
use Rattle.vf_records.proofs.tables.Tables.close.Goals as goal

pub place-place-requires : goal.place-place-requires
place-place-requires c = (placed_job c.args.setup.now (solo_of c.args.setup.now).counts c.args.self.now c.requires.tables c.args.job c.requires.job).node

pub index_mut-requires : goal.index_mut-requires
index_mut-requires c =
    let placed = placed_job c.args.setup.now (solo_of c.args.setup.now).counts c.args.self.now c.requires.tables c.args.job c.requires.job in
    omega (arith, placed.progress, c.place-place.ensures, c.args.self.now.progress.ok.0)

pub tell-requires : goal.tell-requires
tell-requires c =
    let placed = placed_job c.args.setup.now (solo_of c.args.setup.now).counts c.args.self.now c.requires.tables c.args.job c.requires.job in
    omega (arith, placed.told, c.place-place.ensures)

pub know-requires : goal.know-requires
know-requires c = (placed_job c.args.setup.now (solo_of c.args.setup.now).counts c.args.self.now c.requires.tables c.args.job c.requires.job).kinds

pub over_from-self-requires : goal.over_from-self-requires
over_from-self-requires c =
    let t = c.args.self.now in
    let placed = placed_job c.args.setup.now (solo_of c.args.setup.now).counts t c.requires.tables c.args.job c.requires.job in
    over_set t.progress.items c.place-place.result t.first (omega (arith, placed.progress, c.place-place.ensures)) c.requires.tables.first

pub count_up-requires-clause-plan : goal.count_up-requires-clause-plan
count_up-requires-clause-plan c = subst IsPlan (sym c.nodes.ensures.nodes) c.nodes.ensures.kept.plan

pub count_up-requires-clause-at : goal.count_up-requires-clause-at
count_up-requires-clause-at c =
    let placed = placed_job c.args.setup.now (solo_of c.args.setup.now).counts c.args.self.now c.requires.tables c.args.job c.requires.job in
    let node = placed.node in
    let long = c.requires.tables.layout.long in
    let same = ap (λ (ns : List Node). length ns) c.nodes.ensures.nodes in
    omega (arith, node, long, same, c.node_of.ensures)

pub count_up-requires-clause-length : goal.count_up-requires-clause-length
count_up-requires-clause-length c = c.requires.tables.numbered.done_long ∙ sym (ap (λ (ns : List Node). length ns) c.nodes.ensures.nodes)

pub push_reserved-requires : goal.push_reserved-requires
push_reserved-requires c =
    let s = c.args.setup.now in
    let t = c.args.self.now in
    let kept = c.requires.tables in
    let spend = spent_at s (solo_of s).counts t kept c.args.job c.requires.job c.requires.left in
    let most : length t.journal.items + sum_by to_come t.progress.items + length t.held.items ≤ 3 * length t.layout.jobs.items = kept.room.most in
    let room = kept.room.journal in
    omega (arith, spend, most, room, t.journal.ok.0)

pub returns-clause-records : goal.returns-clause-records
returns-clause-records c =
    let s = c.args.setup.now in
    let t = c.args.self.now in
    let kept = c.requires.tables in
    let placed = placed_job s (solo_of s).counts t kept c.args.job c.requires.job in
    let k = c.place-place.result in
    let same : k ≡ place_in t.layout.places.items c.args.job = c.place-place.ensures in
    let at : slice_get t.layout.jobs.items k ≡ Some c.args.job = ap (slice_get t.layout.jobs.items) same ∙ placed.at in
    let progress : k < length t.progress.items = omega (arith, placed.progress, same) in
    let told : k < length t.told.items = omega (arith, placed.told, same) in
    closed s.plan t.layout.jobs.items t.layout.places.items kept.layout t.kinds.items t.progress.items t.told.items t.held.items c.args.job k c.args.tells c.args.kind
    at progress told placed.kinds c.know.new.kinds.items c.tell.new.told.items c.know.ensures c.tell.ensures

pub returns-clause-tables : goal.returns-clause-tables
returns-clause-tables c =
    let s = c.args.setup.now in
    let t = c.args.self.now in
    let kept = c.requires.tables in
    let placed = placed_job s (solo_of s).counts t kept c.args.job c.requires.job in
    let p = place_in t.layout.places.items c.args.job in
    let spend = spent_at s (solo_of s).counts t kept c.args.job c.requires.job c.requires.left in
    let most : length t.journal.items + sum_by to_come t.progress.items + length t.held.items ≤ 3 * length t.layout.jobs.items = kept.room.most in
    let room = kept.room.journal in
    let k = c.place-place.result in
    let same : k ≡ p = c.place-place.ensures in
    let progress : k < length t.progress.items = omega (arith, placed.progress, same) in
    let told : k < length t.told.items = omega (arith, placed.told, same) in
    let longer : length c.push_reserved.new.self.items ≡ length t.journal.items + 1 = ap length c.push_reserved.ensures.items ∙ length-append t.journal.items (c.args.entry ∷ []) in
    let less : sum_by to_come (slice_set t.progress.items k rows.Over) + 2 ≤ sum_by to_come t.progress.items =
    subst (λ (n : ℕ). sum_by to_come (slice_set t.progress.items n rows.Over) + 2 ≤ sum_by to_come t.progress.items) (sym same) spend in
    record {
      layout = kept.layout;
      progress = length-set t.progress.items k rows.Over ∙ kept.progress;
      told = ap length c.tell.ensures ∙ length-set t.told.items k c.args.tells ∙ kept.told;
      quiet = subst (IsQuiet (slice_set t.progress.items k rows.Over)) (sym c.tell.ensures)
          (quiet_set t.progress.items t.told.items k rows.Over c.args.tells progress told (λ e. absurd (false≢true (sym e))) kept.quiet);
      kinds = ap length c.know.ensures ∙ kinds_long c.args.job c.args.kind t.kinds.items ∙ kept.kinds;
      first = c.over_from-self.ensures;
      counted = kept.counted;
      within = kept.within;
      imaged = kept.imaged;
      images = kept.images;
      apart = kept.apart;
      pinned = kept.pinned;
      pins = kept.pins;
      numbered = record {
        all_long = kept.numbered.all_long;
        done_long = c.count_up.ensures.length ∙ ap (λ (ns : List Node). length ns) c.nodes.ensures.nodes;
        all_counted = kept.numbered.all_counted;
        done_counted = λ n.
            c.count_up.ensures.counted n
            (let is = kept.numbered.done_counted n in
            let most = over_within s.plan n t.layout.jobs.items t.progress.items in
            let step = one_most (is_below c.nodes.result.now n c.node_of.result.0) in
            omega (arith, is, most, step, t.layout.jobs.ok.0))
            ∙ ap₂ (λ (k : ℕ) (ns : List Node). k + one (is_below ns n c.node_of.result.0)) (kept.numbered.done_counted n) c.nodes.ensures.nodes
            ∙ ap (λ m. over_below s.plan n t.layout.jobs.items t.progress.items + one (is_below s.plan n m)) c.node_of.ensures
            ∙ sym (over_more s.plan n t.layout.jobs.items t.progress.items k c.args.job (ap (slice_get t.layout.jobs.items) same ∙ placed.at) progress
            (ap (λ m. is_over_progress (get_or t.progress.items m rows.Idle)) same ∙ not_over_at s (solo_of s).counts t kept c.args.job c.requires.job c.requires.left));
      };
      ended = kept.ended;
      ends = kept.ends;
      room = record { most = omega (arith, longer, less, most); journal = omega (arith, room, c.push_reserved.ensures.capacity); held = kept.room.held };
    }

pub returns-clause-slack : goal.returns-clause-slack
returns-clause-slack c =
    let s = c.args.setup.now in
    let t = c.args.self.now in
    let kept = c.requires.tables in
    let p = place_in t.layout.places.items c.args.job in
    let spend = spent_at s (solo_of s).counts t kept c.args.job c.requires.job c.requires.left in
    let most : length t.journal.items + sum_by to_come t.progress.items + length t.held.items ≤ 3 * length t.layout.jobs.items = kept.room.most in
    let room = kept.room.journal in
    let same : c.place-place.result ≡ p = c.place-place.ensures in
    let longer : length c.push_reserved.new.self.items ≡ length t.journal.items + 1 = ap length c.push_reserved.ensures.items ∙ length-append t.journal.items (c.args.entry ∷ []) in
    let less : sum_by to_come (slice_set t.progress.items c.place-place.result rows.Over) + 2 ≤ sum_by to_come t.progress.items =
    subst (λ (n : ℕ). sum_by to_come (slice_set t.progress.items n rows.Over) + 2 ≤ sum_by to_come t.progress.items) (sym same) spend in
    omega (arith, longer, less)
