use Rattle.std.proofs.Common.{◌≡◌, ℕ, ◌<◌, ◌+◌, ◌∙◌, Some, length, slice_get, get_or, refl, sym, ap, subst, arith}
use Rattle.std.proofs.lemmas.List.{get_or_read}
use Rattle.std.proofs.lemmas.Option.{slice_get_read, slice_get_within}
use Rattle.vf_base.specs.declared.names.NodeNo.{NodeNo}
use Rattle.vf_records.specs.declared.layout.Layout.{Layout}
use Rattle.vf_records.specs.declared.tables.Tables.{Tables}
use Rattle.vf_records.specs.Account.{solo_of}
use Rattle.vf_records.specs.Spreads.{spread_seen}
use Rattle.vf_records.proofs.ReadyLemmas.{standing}
use Rattle.vf_records.proofs.FollowLemmas.{IsCopying, copied_next, copying_first, copying_next, copying_past, copying_last, copied_records, copied_journal}
use Rattle.vf_records.proofs.tables.Tables.copy.Goals as goal
use Rattle.vf_records.proofs.tables.Tables.copy.Goals.{then-is_copied, else-is_copied}

pub loop-at-init : goal.loop-at-init
loop-at-init c = copying_first c.args.setup.now (solo_of c.args.setup.now).counts (spread_seen c.args.setup.now c.args.spread) c.args.self.now c.requires.tables c.requires.node

pub is_copied-requires-clause-at : goal.is_copied-requires-clause-at
is_copied-requires-clause-at c =
    let same = ap (λ (l : Layout). length l.jobs.items) c.loop-at.invariant.copied.layout in
    omega (arith, same, c.loop-at-test.true, c.lesser-end.ensures.b, c.len.ensures)

pub loop-at-preserved : goal.loop-at-preserved
loop-at-preserved c =
    let s = c.args.setup.now in
    let first = c.args.self.now in
    let spread = spread_seen s c.args.spread in
    let less : c.loop-at.at < length first.layout.jobs.items = omega (arith, c.loop-at-test.true, c.lesser-end.ensures.b, c.len.ensures) in
    let stands = standing first.layout.jobs.items c.loop-at.at less in
    let there : slice_get c.loop-at.self.layout.jobs.items c.loop-at.at ≡ Some stands.0 =
    ap (λ (l : Layout). slice_get l.jobs.items c.loop-at.at) c.loop-at.invariant.copied.layout ∙ stands.1 in
    elim c.if-is_copied.branch as (λ _. IsCopying s (solo_of s).counts spread first c.if-is_copied.self c.if-is_copied.last (c.loop-at.at + 1)) [
      | then-is_copied w ↦
          (let job = w.index-job.result.now in
          let listed = c.loop-at.self.layout.jobs.items in
          let within : c.loop-at.at < length listed = slice_get_within listed c.loop-at.at stands.0 there in
          let here : slice_get listed c.loop-at.at ≡ Some job = slice_get_read listed (length listed) c.loop-at.at job refl within w.index-job.ensures in
          let in_first : slice_get first.layout.jobs.items c.loop-at.at ≡ Some job = ap (λ (l : Layout). slice_get l.jobs.items c.loop-at.at) (sym c.loop-at.invariant.copied.layout) ∙ here in
          let one = copied_next s (solo_of s).counts spread first c.requires.tables c.loop-at.self w.close.new.self c.loop-at.at job c.loop-at.invariant.copied in_first
          (sym (c.is_copied.ensures job here) ∙ w.if-is_copied.true) w.close.ensures.layout w.close.ensures.records w.close.ensures.journal w.close.ensures.tables in
          subst (λ (t : Tables). IsCopying s (solo_of s).counts spread first t c.if-is_copied.last (c.loop-at.at + 1)) (sym w.self-is)
          (subst (λ (n : NodeNo). IsCopying s (solo_of s).counts spread first w.close.new.self n (c.loop-at.at + 1)) (sym (w.last-is ∙ w.later-last.ensures))
          (copying_next s (solo_of s).counts spread first c.requires.tables c.loop-at.self w.close.new.self c.loop-at.last c.loop-at.at job w.node_of.result c.loop-at.invariant in_first w.node_of.ensures one)))
      | else-is_copied w ↦
          subst (λ (t : Tables). IsCopying s (solo_of s).counts spread first t c.if-is_copied.last (c.loop-at.at + 1)) (sym w.self-is)
          (subst (λ (n : NodeNo). IsCopying s (solo_of s).counts spread first c.loop-at.self n (c.loop-at.at + 1)) (sym w.last-is)
          (copying_past s (solo_of s).counts spread first c.requires.tables c.loop-at.self c.loop-at.last c.loop-at.at stands.0 c.loop-at.invariant stands.1 (sym (c.is_copied.ensures stands.0 there) ∙ w.if-is_copied.false)))
    ]

past : (c : goal.After-loop-at) → (k : ℕ) → k < get_or c.args.self.now.ends.items c.args.spread.node.0 0 → k < length c.args.self.now.layout.jobs.items → k < c.loop-at.at
past c k ended less =
    let first = c.args.self.now in
    let long = c.requires.tables.ends in
    let inside = c.requires.node in
    let read = get_or_read first.ends.items c.args.spread.node.0 c.index.result.now (omega (arith, long, inside)) c.index.ensures 0 in
    let end = c.lesser-end.ensures.is k (omega (arith, read, ended)) (omega (arith, less, c.len.ensures)) in
    omega (arith, end, c.loop-at-test.false)

pub returns-clause-records : goal.returns-clause-records
returns-clause-records c =
    copied_records c.args.setup.now (solo_of c.args.setup.now).counts (spread_seen c.args.setup.now c.args.spread) c.args.self.now c.requires.tables c.loop-at.self c.loop-at.last c.loop-at.at
    c.loop-at.invariant (past c)

pub returns-clause-journal : goal.returns-clause-journal
returns-clause-journal c =
    copied_journal c.args.setup.now (solo_of c.args.setup.now).counts (spread_seen c.args.setup.now c.args.spread) c.args.self.now c.requires.tables c.loop-at.self c.loop-at.last c.loop-at.at
    c.loop-at.invariant (past c)

pub returns-clause-last : goal.returns-clause-last
returns-clause-last c =
    copying_last c.args.setup.now (solo_of c.args.setup.now).counts (spread_seen c.args.setup.now c.args.spread) c.args.self.now c.requires.tables c.loop-at.self c.loop-at.last c.loop-at.at
    c.loop-at.invariant (past c)
