use Rattle.std.proofs.Common.{◌≡◌, ℕ, ◌<◌, ◌≤◌, ◌+◌, ◌*◌, ◌∙◌, [], ◌∷◌, Some, length, refl, sym, ap, subst, arith, slice_get, slice_set, get_or, sum_by, length-append}
use Rattle.std.proofs.lemmas.List.{length-set}
use Rattle.vf_journal.specs.declared.entry.Entry.TheVariants.{Start}
use Rattle.vf_journal.specs.Records.{Attempt, running}
use Rattle.vf_journal.specs.Effects.{with_stage}
use Rattle.vf_records.specs.declared.row.Progress.TheVariants as rows
use Rattle.vf_records.specs.Account.{solo_of}
use Rattle.vf_records.specs.Layout.{place_in}
use Rattle.vf_records.specs.Tables.{records_of, to_come, is_over_progress}
use Rattle.vf_records.proofs.CountLemmas.{over_same}
use Rattle.vf_records.proofs.TableLemmas.{quiet_run}
use Rattle.vf_records.proofs.EventLemmas.{placed_ready, idle_at, idle_not_over, over_run, used, begun_with}
use Rattle.vf_records.proofs.tables.Tables.begin.Goals as goal

pub origin-origin-requires-clause-node : goal.origin-origin-requires-clause-node
origin-origin-requires-clause-node c =
    let s = c.args.setup.now in
    let t = c.args.self.now in
    let kept = c.requires.tables in
    let placed = placed_ready s (solo_of s).counts t kept c.args.job c.requires.ready in
    omega (arith, placed.node, kept.layout.long)

pub attempt_from-attempt-requires : goal.attempt_from-attempt-requires
attempt_from-attempt-requires c = c.requires.tables.imaged

pub place-place-requires : goal.place-place-requires
place-place-requires c =
    let s = c.args.setup.now in
    let t = c.args.self.now in
    let kept = c.requires.tables in
    let placed = placed_ready s (solo_of s).counts t kept c.args.job c.requires.ready in
    placed.node

pub index_mut-requires : goal.index_mut-requires
index_mut-requires c =
    let s = c.args.setup.now in
    let t = c.args.self.now in
    let kept = c.requires.tables in
    let placed = placed_ready s (solo_of s).counts t kept c.args.job c.requires.ready in
    omega (arith, placed.progress, c.place-place.ensures, t.progress.ok.0)

pub push_reserved-requires : goal.push_reserved-requires
push_reserved-requires c =
    let s = c.args.setup.now in
    let t = c.args.self.now in
    let kept = c.requires.tables in
    let placed = placed_ready s (solo_of s).counts t kept c.args.job c.requires.ready in
    let p = place_in t.layout.places.items c.args.job in
    let attempt = c.attempt_from-attempt.result in
    let idle = idle_at s (solo_of s).counts t kept c.args.job c.requires.ready in
    let spend = used t.progress.items p attempt placed.progress idle in
    let most : length t.journal.items + sum_by to_come t.progress.items + length t.held.items ≤ 3 * length t.layout.jobs.items = kept.room.most in
    let room = kept.room.journal in
    omega (arith, spend, most, room, t.journal.ok.0)

pub returns-clause-records : goal.returns-clause-records
returns-clause-records c =
    let s = c.args.setup.now in
    let t = c.args.self.now in
    let kept = c.requires.tables in
    let placed = placed_ready s (solo_of s).counts t kept c.args.job c.requires.ready in
    let k = c.place-place.result in
    let same : k ≡ place_in t.layout.places.items c.args.job = c.place-place.ensures in
    let at : slice_get t.layout.jobs.items k ≡ Some c.args.job = ap (slice_get t.layout.jobs.items) same ∙ placed.at in
    let progress : k < length t.progress.items = omega (arith, placed.progress, same) in
    let told : k < length t.told.items = omega (arith, placed.told, same) in
    begun_with s.plan t.layout.jobs.items t.layout.places.items kept.layout t.kinds.items t.progress.items t.told.items t.held.items c.args.job k c.attempt_from-attempt.result at progress told
    ∙ ap (λ (a : Attempt). with_stage c.args.job (running a) (records_of t)) c.attempt_from-attempt.ensures

pub returns-clause-tables : goal.returns-clause-tables
returns-clause-tables c =
    let s = c.args.setup.now in
    let t = c.args.self.now in
    let kept = c.requires.tables in
    let placed = placed_ready s (solo_of s).counts t kept c.args.job c.requires.ready in
    let p = place_in t.layout.places.items c.args.job in
    let attempt = c.attempt_from-attempt.result in
    let idle = idle_at s (solo_of s).counts t kept c.args.job c.requires.ready in
    let spend = used t.progress.items p attempt placed.progress idle in
    let most : length t.journal.items + sum_by to_come t.progress.items + length t.held.items ≤ 3 * length t.layout.jobs.items = kept.room.most in
    let room = kept.room.journal in
    let k = c.place-place.result in
    let same : k ≡ p = c.place-place.ensures in
    let progress : k < length t.progress.items = omega (arith, placed.progress, same) in
    let told : k < length t.told.items = omega (arith, placed.told, same) in
    let longer : length c.push_reserved.new.self.items ≡ length t.journal.items + 1 = ap length c.push_reserved.ensures.items ∙ length-append t.journal.items (Start c.args.job c.origin-origin.result ∷ []) in
    let less : sum_by to_come (slice_set t.progress.items k (rows.Running attempt)) + 1 ≡ sum_by to_come t.progress.items =
    subst (λ (n : ℕ). sum_by to_come (slice_set t.progress.items n (rows.Running attempt)) + 1 ≡ sum_by to_come t.progress.items) (sym same) spend in
    record {
      layout = kept.layout;
      progress = length-set t.progress.items k (rows.Running attempt) ∙ kept.progress;
      told = kept.told;
      quiet = quiet_run t.progress.items t.told.items k (rows.Running attempt) progress told
          (ap (λ n. is_over_progress (get_or t.progress.items n rows.Idle)) same ∙ idle_not_over (get_or t.progress.items p rows.Idle) idle) kept.quiet;
      kinds = kept.kinds;
      first = over_run t.progress.items k t.first (rows.Running attempt) (ap (λ n. is_over_progress (get_or t.progress.items n rows.Idle)) same ∙ idle_not_over (get_or t.progress.items p rows.Idle) idle) kept.first;
      counted = kept.counted;
      within = kept.within;
      imaged = kept.imaged;
      images = kept.images;
      apart = kept.apart;
      pinned = kept.pinned;
      pins = kept.pins;
      numbered = record {
        all_long = kept.numbered.all_long;
        done_long = kept.numbered.done_long;
        all_counted = kept.numbered.all_counted;
        done_counted = λ n.
            kept.numbered.done_counted n
            ∙ sym (over_same s.plan n t.layout.jobs.items t.progress.items k (rows.Running attempt) refl
            (ap (λ m. is_over_progress (get_or t.progress.items m rows.Idle)) same ∙ idle_not_over (get_or t.progress.items p rows.Idle) idle));
      };
      ended = kept.ended;
      ends = kept.ends;
      room = record { most = omega (arith, longer, less, most); journal = omega (arith, room, c.push_reserved.ensures.capacity); held = kept.room.held };
    }
