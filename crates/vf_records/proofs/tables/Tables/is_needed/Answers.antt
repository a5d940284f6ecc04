use Rattle.std.proofs.Common.{◌<◌, ◌∙◌, nat_lt, ◌&&◌, not, length, sym, ap, ap₂, arith}
use Rattle.std.specs.List.{list_any}
use Rattle.std.proofs.lemmas.List.{get_or_read}
use Rattle.vf_jobs.specs.Jobs.{node_of}
use Rattle.vf_jobs.specs.Subtree.{is_below}
use Rattle.vf_journal.specs.Records.{is_over}
use Rattle.vf_records.specs.Account.{solo_of}
use Rattle.vf_records.specs.Tables.{records_of}
use Rattle.vf_records.proofs.CountLemmas.{left_below}
use Rattle.vf_records.proofs.TableLemmas.{listed_all}
use Rattle.vf_records.proofs.ReadyLemmas.{over_at}
use Rattle.vf_records.proofs.tables.Tables.is_needed.Goals as goal

pub returns : goal.returns
returns c =
    let s = c.args.setup.now in
    let t = c.args.self.now in
    let kept = c.requires.tables in
    let listed = t.layout.jobs.items in
    let n = c.args.node.0 in
    let done_in : n < length t.done.items = (let long = kept.numbered.done_long in let inside = c.requires.node in omega (arith, long, inside)) in
    let all_in : n < length t.all.items = (let long = kept.numbered.all_long in let inside = c.requires.node in omega (arith, long, inside)) in
    ap₂ nat_lt (get_or_read t.done.items n c.index-done.result.now done_in c.index-done.ensures 0 ∙ kept.numbered.done_counted n) (get_or_read t.all.items n c.index-all.result.now all_in c.index-all.ensures 0 ∙ kept.numbered.all_counted n)
    ∙ sym (left_below s.plan n listed t.progress.items (λ job. is_over ((records_of t).stages job)) kept.progress (λ i job e. over_at s (solo_of s).counts t kept i job e))
    ∙ ap (list_any (λ job. is_below s.plan n (node_of job) && not (is_over ((records_of t).stages job)))) (listed_all s.plan listed t.layout.places.items kept.layout)
