use Rattle.std.proofs.Common.{◌≡◌, ◌<◌, ◌≤◌, ◌+◌, ◌∙◌, List, IfSome, length, drop, slice_get, sym, ap, subst, arith}
use Rattle.vf_base.specs.declared.names.NodeNo.{NodeNo}
use Rattle.vf_journal.specs.declared.entry.Entry.{Entry}
use Rattle.vf_book.specs.Book.{retired_by, retired_in, without, Lags}
use Rattle.vf_book.proofs.ImageLemmas.{lags_none, inside_by}
use Rattle.vf_book.proofs.ReleaseLemmas.{Released, drop_next, drop_all, entry_there, released_step}
use Rattle.vf_book.proofs.images.release_retired.Goals as goal

pub release_by-requires-clause-inside : goal.release_by-requires-clause-inside
release_by-requires-clause-inside g c =
    let a = c.args.records.now in
    let at = c.loop-at.at in
    let long = ap length c.journal-journal.ensures.journal in
    let within : at < length a.journal = omega (arith, long) in
    let there = entry_there a.journal at within in
    let is : c.retired_at.result ≡ retired_by there.0 = c.retired_at.ensures ∙ ap (λ (es : List Entry). retired_in (slice_get es at)) c.journal-journal.ensures.journal ∙ ap retired_in there.1 in
    subst (λ o. IfSome o (λ (node : NodeNo). node.0 < length c.loop-at.images.items)) (sym is)
    (inside_by a c.loop-at.images.items there.0 (drop (at + 1) a.journal) (subst (Lags a c.loop-at.images.items) (drop_next a.journal at there.0 there.1) c.loop-at.invariant.lags))

pub loop-at-preserved : goal.loop-at-preserved
loop-at-preserved g c =
    let a = c.args.records.now in
    let at = c.loop-at.at in
    let long = ap length c.journal-journal.ensures.journal in
    let within : at < length a.journal = omega (arith, long) in
    let there = entry_there a.journal at within in
    let is : c.retired_at.result ≡ retired_by there.0 = c.retired_at.ensures ∙ ap (λ (es : List Entry). retired_in (slice_get es at)) c.journal-journal.ensures.journal ∙ ap retired_in there.1 in
    let inv = subst (λ (es : List Entry). Released a c.args.images.now.items c.loop-at.images.items es (g.F.Frames.name c.args.pool.now) (g.F.Frames.name c.loop-at.pool)
    (g.F.Frames.numbers c.args.pool.now) (g.F.Frames.numbers c.loop-at.pool) (g.F.Frames.seen c.args.hand.now) (g.F.Frames.seen c.loop-at.hand)) (drop_next a.journal at there.0 there.1) c.loop-at.invariant in
    let gave = c.release_by.ensures in
    released_step a c.args.images.now.items c.loop-at.images.items there.0 (drop (at + 1) a.journal) (g.F.Frames.name c.args.pool.now) (g.F.Frames.name c.loop-at.pool)
    (g.F.Frames.numbers c.args.pool.now) (g.F.Frames.numbers c.loop-at.pool) (g.F.Frames.seen c.args.hand.now) (g.F.Frames.seen c.loop-at.hand) inv
    c.release_by.new.images.items (g.F.Frames.name c.release_by.new.pool) (g.F.Frames.numbers c.release_by.new.pool) (g.F.Frames.seen c.release_by.new.hand)
    (gave.images ∙ ap (λ o. without o c.loop-at.images.items) is) gave.hand gave.kept gave.pool

pub returns-clause-book : goal.returns-clause-book
returns-clause-book g c =
    let a = c.args.records.now in
    let long = ap length c.journal-journal.ensures.journal in
    let past : length a.journal ≤ c.loop-at.at = omega (arith, long) in
    lags_none a c.loop-at.images.items (subst (Lags a c.loop-at.images.items) (drop_all a.journal c.loop-at.at past) c.loop-at.invariant.lags)
