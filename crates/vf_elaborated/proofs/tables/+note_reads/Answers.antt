use Rattle.std.proofs.Common.{rules, ◌==◌, ◌||◌, Some, None, sym, ◌∙◌, ap}
use Rattle.std.proofs.lemmas.Result.{on_ok_weaker}
use Rattle.std.specs.List.{list_any}
use Rattle.vf_elaborated.specs.declared.expr.Expr.TheVariants as v
use Rattle.vf_elaborated.specs.declared.expr.Expr.TheOpen.{Expr-F}
use Rattle.vf_elaborated.specs.Values.{reads_signal}
use Rattle.vf_elaborated.proofs.NoteLemmas.{noted_same, noted_nowhere, next_noted, all_are_noted}
use Rattle.vf_elaborated.proofs.ReadsLemmas.{reads_by, or_false, any_map, noted_then, one_read, two_read, three_read}
use Rattle.vf_elaborated.proofs.tables.+note_reads.Goals as goal

-- ---- the parts of a concatenation

pub loop-part-preserved : goal.loop-part-preserved
loop-part-preserved t c =
    next_noted c.args.number reads_signal c.as_slice-part-items.result.now c.loop-part.part-index c.loop-part.lists _ c.note_reads-in-loop-part.new.lists
    c.loop-part-test.true (search rules) c.in_ok-note_reads-in-Join.ensures
    ∙ c.loop-part.invariant

pub returns-after-loop-part : goal.returns-after-loop-part
returns-after-loop-part t c =
    let parts = c.as_slice-part-items.result.now in
    let is = c.in-Join.is ∙ sym (v.rolls-Join c.in-Join.parts c.in-Join.width) in
    sym (all_are_noted c.args.number reads_signal parts c.loop-part.part-index c.loop-part.lists c.loop-part-test.false) ∙ c.loop-part.invariant
    ∙ noted_same c.args.number (λ sig. list_any (reads_signal sig) parts) (λ sig. reads_signal sig c.args.e.now) c.args.lists.now
    (λ sig.
    ap (list_any (reads_signal sig)) c.as_slice-part-items.ensures
    ∙ sym (reads_by c.args.e.now (Expr-F.Join c.in-Join.parts c.in-Join.width) is sig ∙ any_map (reads_signal sig) c.in-Join.parts))

-- ---- the other nodes, each by its parts

pub returns-in-Const : goal.returns-in-Const
returns-in-Const t c =
    noted_nowhere c.args.number (λ sig. reads_signal sig c.args.e.now) c.args.lists.now
    (reads_by c.args.e.now (Expr-F.Const c.in-Const.field-0) (c.in-Const.is ∙ sym (v.rolls-Const c.in-Const.field-0)))

pub returns-in-Now : goal.returns-in-Now
returns-in-Now t c =
    noted_nowhere c.args.number (λ sig. reads_signal sig c.args.e.now) c.args.lists.now (reads_by c.args.e.now Expr-F.Now (c.in-Now.is ∙ sym v.rolls-Now))

pub returns-in-None : goal.returns-in-None
returns-in-None t c =
    let sig = c.in-Read.sig in
    let is = c.in-Read.is ∙ ap (v.Read sig) c.in-None.is ∙ sym (v.rolls-Read sig None) in
    c.in_ok-note-in-Read.ensures
    ∙ noted_same c.args.number (λ n. sig.0 == n) (λ n. reads_signal n c.args.e.now) c.args.lists.now
    (λ n. sym (reads_by c.args.e.now (Expr-F.Read sig None) is n ∙ or_false (sig.0 == n)))

pub returns-in-Some : goal.returns-in-Some
returns-in-Some t c =
    let sig = c.in-Read.sig in
    let is = c.in-Read.is ∙ ap (v.Read sig) c.in-Some.is ∙ sym (v.rolls-Read sig (Some c.in-Some.element)) in
    on_ok_weaker c.note_reads.result
    (noted_then c.args.number (λ n. sig.0 == n) (λ n. reads_signal n c.get.result.now) (λ n. reads_signal n c.args.e.now) c.args.lists.now c.note.new.self
    c.note_reads.new.lists
    (λ n. reads_by c.args.e.now (Expr-F.Read sig (Some c.in-Some.element)) is n ∙ ap (λ e. sig.0 == n || reads_signal n e) (sym c.get.ensures)) c.in_ok-note-in-Read.ensures)
    c.note_reads.ensures

pub returns-in_ok-note_reads-in-Pick-2 : goal.returns-in_ok-note_reads-in-Pick-2
returns-in_ok-note_reads-in-Pick-2 t c =
    let is = c.in-Pick.is ∙ sym (v.rolls-Pick c.in-Pick.cond c.in-Pick.yes c.in-Pick.no c.in-Pick.width c.in-Pick.signed) in
    on_ok_weaker c.note_reads-in-Pick-3.result
    (three_read c.args.number c.args.e.now c.args.lists.now c.in-Pick.cond c.in-Pick.yes c.in-Pick.no c.get-in-Pick.result.now c.get-in-Pick-2.result.now
    c.get-in-Pick-3.result.now c.note_reads-in-Pick.new.lists c.note_reads-in-Pick-2.new.lists c.note_reads-in-Pick-3.new.lists
    (reads_by c.args.e.now (Expr-F.Pick c.in-Pick.cond c.in-Pick.yes c.in-Pick.no c.in-Pick.width c.in-Pick.signed) is) c.get-in-Pick.ensures c.get-in-Pick-2.ensures
    c.get-in-Pick-3.ensures c.in_ok-note_reads-in-Pick.ensures c.in_ok-note_reads-in-Pick-2.ensures)
    c.note_reads-in-Pick-3.ensures

pub returns-in_ok-note_reads-in-Select : goal.returns-in_ok-note_reads-in-Select
returns-in_ok-note_reads-in-Select t c =
    let is = c.in-Select.is ∙ sym (v.rolls-Select c.in-Select.of c.in-Select.low c.in-Select.scale c.in-Select.shift c.in-Select.width) in
    on_ok_weaker c.note_reads-in-Select-2.result
    (two_read c.args.number c.args.e.now c.args.lists.now c.in-Select.of c.in-Select.low c.get-in-Select.result.now c.get-in-Select-2.result.now
    c.note_reads-in-Select.new.lists c.note_reads-in-Select-2.new.lists (reads_by c.args.e.now (Expr-F.Select c.in-Select.of c.in-Select.low c.in-Select.scale c.in-Select.shift c.in-Select.width) is) c.get-in-Select.ensures
    c.get-in-Select-2.ensures c.in_ok-note_reads-in-Select.ensures)
    c.note_reads-in-Select-2.ensures

pub returns-in_ok-note_reads-in-Two : goal.returns-in_ok-note_reads-in-Two
returns-in_ok-note_reads-in-Two t c =
    let is = c.in-Two.is ∙ sym (v.rolls-Two c.in-Two.op c.in-Two.left c.in-Two.right c.in-Two.width c.in-Two.signed) in
    on_ok_weaker c.note_reads-in-Two-2.result
    (two_read c.args.number c.args.e.now c.args.lists.now c.in-Two.left c.in-Two.right c.get-in-Two.result.now c.get-in-Two-2.result.now
    c.note_reads-in-Two.new.lists c.note_reads-in-Two-2.new.lists (reads_by c.args.e.now (Expr-F.Two c.in-Two.op c.in-Two.left c.in-Two.right c.in-Two.width c.in-Two.signed) is) c.get-in-Two.ensures
    c.get-in-Two-2.ensures c.in_ok-note_reads-in-Two.ensures)
    c.note_reads-in-Two-2.ensures

pub returns-in-One : goal.returns-in-One
returns-in-One t c =
    let is = c.in-One.is ∙ sym (v.rolls-One c.in-One.op c.in-One.of c.in-One.width c.in-One.signed) in
    on_ok_weaker c.note_reads-in-One.result
    (one_read c.args.number c.args.e.now c.args.lists.now c.in-One.of c.get-in-One.result.now c.note_reads-in-One.new.lists
    (reads_by c.args.e.now (Expr-F.One c.in-One.op c.in-One.of c.in-One.width c.in-One.signed) is) c.get-in-One.ensures)
    c.note_reads-in-One.ensures

pub returns-in-Resize : goal.returns-in-Resize
returns-in-Resize t c =
    let is = c.in-Resize.is ∙ sym (v.rolls-Resize c.in-Resize.of c.in-Resize.width c.in-Resize.signed) in
    on_ok_weaker c.note_reads-in-Resize.result
    (one_read c.args.number c.args.e.now c.args.lists.now c.in-Resize.of c.get-in-Resize.result.now c.note_reads-in-Resize.new.lists
    (reads_by c.args.e.now (Expr-F.Resize c.in-Resize.of c.in-Resize.width c.in-Resize.signed) is) c.get-in-Resize.ensures)
    c.note_reads-in-Resize.ensures

pub returns-in-PastEnd : goal.returns-in-PastEnd
returns-in-PastEnd t c =
    let is = c.in-PastEnd.is ∙ sym (v.rolls-PastEnd c.in-PastEnd.of) in
    on_ok_weaker c.note_reads-in-PastEnd.result
    (one_read c.args.number c.args.e.now c.args.lists.now c.in-PastEnd.of c.get-in-PastEnd.result.now c.note_reads-in-PastEnd.new.lists
    (reads_by c.args.e.now (Expr-F.PastEnd c.in-PastEnd.of) is) c.get-in-PastEnd.ensures)
    c.note_reads-in-PastEnd.ensures
