use Rattle.std.proofs.Common.{◌<◌, ◌+◌, ◌∙◌, ◌||◌, not, length, drop, sym, ap, arith}
use Rattle.std.specs.List.{list_any}
use Rattle.vf_journal.specs.Records.{is_over}
use Rattle.vf_records.specs.Account.{solo_of}
use Rattle.vf_records.specs.Tables.{records_of}
use Rattle.vf_records.proofs.ReadyLemmas.{any_after, over_before, any_here, any_past, left_all, over_at, standing}
use Rattle.vf_records.proofs.tables.Tables.is_left.Goals as goal

pub returns-then-not-is_over_at : goal.returns-then-not-is_over_at
returns-then-not-is_over_at c =
    let t = c.args.self.now in
    let listed = t.layout.jobs.items in
    let less : c.loop-at.at < length listed = omega arith in
    let stands = standing listed c.loop-at.at less in
    sym (left_all c.args.setup.now (solo_of c.args.setup.now).counts t c.requires ∙ c.loop-at.invariant
    ∙ any_here (λ job. not (is_over ((records_of t).stages job))) listed c.loop-at.at stands.0 stands.1
    ∙ ap (λ b. not b || list_any (λ job. not (is_over ((records_of t).stages job))) (drop (c.loop-at.at + 1) listed))
    (over_at c.args.setup.now (solo_of c.args.setup.now).counts t c.requires c.loop-at.at stands.0 stands.1 ∙ sym c.is_over_at.ensures ∙ c.if-not-is_over_at.true))

pub loop-at-preserved : goal.loop-at-preserved
loop-at-preserved c =
    let t = c.args.self.now in
    let listed = t.layout.jobs.items in
    let less : c.loop-at.at < length listed = omega arith in
    let stands = standing listed c.loop-at.at less in
    c.loop-at.invariant
    ∙ any_here (λ job. not (is_over ((records_of t).stages job))) listed c.loop-at.at stands.0 stands.1
    ∙ ap (λ b. not b || list_any (λ job. not (is_over ((records_of t).stages job))) (drop (c.loop-at.at + 1) listed))
    (over_at c.args.setup.now (solo_of c.args.setup.now).counts t c.requires c.loop-at.at stands.0 stands.1 ∙ sym c.is_over_at.ensures ∙ c.if-not-is_over_at.false)

pub returns : goal.returns
returns c =
    let t = c.args.self.now in
    let listed = t.layout.jobs.items in
    sym (left_all c.args.setup.now (solo_of c.args.setup.now).counts t c.requires ∙ c.loop-at.invariant
    ∙ any_past (λ job. not (is_over ((records_of t).stages job))) listed c.loop-at.at (omega arith))

pub loop-at-init : goal.loop-at-init
loop-at-init c =
    any_after (λ job. not (is_over ((records_of c.args.self.now).stages job))) c.args.self.now.layout.jobs.items c.args.self.now.first
    (λ k job h e. ap not (over_before c.args.setup.now (solo_of c.args.setup.now).counts c.args.self.now c.requires k job h e))
