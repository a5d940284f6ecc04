use Rattle.std.proofs.Common.{◌≡◌, None, ◌∙◌, sym, subst, refl, arith}
use Rattle.std.proofs.lemmas.Result.{err_from_is_err_and}
use Rattle.vf_lex.specs.Answers.{HasRoom}
use Rattle.vf_lex.specs.Inner.{around}
use Rattle.vf_lex.specs.Places.{before}
use Rattle.vf_lex.specs.Reads.{use_fault, ends}
use Rattle.vf_lex.proofs.PlaceLemmas.{room_after, moved_depth}
use Rattle.vf_lex.proofs.ReadLemmas.{some_from, none_from, goes_on, defines_on, uses_on, use_fails, use_is_refused, stops_at, carries_on}
use Rattle.vf_lex.proofs.read.+reading.Goals as goal

pub read-step-requires : goal.read-step-requires
read-step-requires t c = (
  omega (arith, c.decreases, c.loop-rest.invariant.depth),
  (some_from _ c.loop-rest-test.ensures, c.loop-rest.invariant.room.0),
)

pub read-loop-rest-preserved : goal.read-loop-rest-preserved
read-loop-rest-preserved t c =
    let l = c.loop-rest in
    let rest = c.in_ok-after.after.now in
    let is = c.moved-spot.ensures in
    let one = c.in_ok-after.ensures in
    record {
      carries = λ end. carries_on c.args.spot l.spot c.moved-spot.result (around c.args.reader.now) (around l.reader)
          (around c.step.new.reader) c.args.text.now l.rest.now rest end is
          l.invariant.carries one.read;
      room = subst (λ s. HasRoom s rest) (sym is)
          (room_after l.spot l.rest.now rest (omega (arith, one.shorter)) l.invariant.room);
      depth = rw is (moved_depth l.spot (before l.rest.now rest)) ∙ l.invariant.depth;
    }

pub read-returns : goal.read-returns
read-returns t c = c.loop-rest.invariant.carries _ (ends (none_from _ c.loop-rest-test.ensures) refl)

pub step-returns-in-Ok-Goes-clause-read : goal.step-returns-in-Ok-Goes-clause-read
step-returns-in-Ok-Goes-clause-read t c =
    goes_on c.args.spot (around c.args.reader.now) (around c.element.new.reader) c.args.text.now c.in-Ok-Goes.rest.now
    c.requires.some
    (rw c.in-Ok-Goes.field-0-is at c.in-Ok-Goes.ensures.effect)

pub step-returns-in-Ok-clause-read : goal.step-returns-in-Ok-clause-read
step-returns-in-Ok-clause-read t c =
    let d = c.in-Ok-Defines in
    defines_on c.args.spot (around c.args.reader.now) (around c.element.new.reader) (around c.define.new.reader)
    c.args.text.now d.name.now d.bytes.now c.in-Ok.rest.now c.requires.some
    (rw d.field-0-is at d.ensures.effect) (rw d.field-0-is at d.ensures.kept) c.in-Ok.ensures.defined

pub step-returns-in-Err-clause-read : goal.step-returns-in-Err-clause-read
step-returns-in-Err-clause-read t c =
    stops_at c.args.spot (around c.args.reader.now) c.args.text.now c.in-Err.kind _ c.requires.some c.in-Err.ensures.effect
    c.fault_at-in-Err.ensures

pub step-returns-in-Some-clause-read : goal.step-returns-in-Some-clause-read
step-returns-in-Some-clause-read t c =
    let d = c.in-Ok-Uses in
    use_is_refused c.args.spot (around c.args.reader.now) (around c.element.new.reader) c.args.text.now d.body.items d.rest.now
    c.in-Some.kind _ c.requires.some
    (rw d.field-0-is at d.ensures.effect) (rw d.field-0-is at d.ensures.kept)
    (sym (rw c.as_slice-body.ensures.value at c.in-Some.ensures.fault)) c.fault_at-in-Some.ensures

pub step-returns-in_err-read-in-Ok-Uses-clause-read : goal.step-returns-in_err-read-in-Ok-Uses-clause-read
step-returns-in_err-read-in-Ok-Uses-clause-read t c =
    let d = c.in-Ok-Uses in
    let p = err_from_is_err_and c.from_residual.result c.from_residual.ensures.1 in
    let fits : use_fault c.args.spot (around c.element.new.reader) c.as_slice-body.result.now ≡ None =
    sym c.use_fault.ensures.fault ∙ c.in_default.is in
    rw (p.1, p.2) (use_fails c.args.spot c.nested.result (around c.args.reader.now) (around c.element.new.reader)
    (around c.count.new.self) c.args.text.now d.body.items d.rest.now _ c.requires.some
    (rw d.field-0-is at d.ensures.effect)
    (record {
      kept = rw d.field-0-is at d.ensures.kept;
      fits = rw c.as_slice-body.ensures.value at fits;
      counts = rw c.as_slice-body.ensures.value at c.count.ensures;
      nests = c.nested.ensures;
    })
    (rw c.as_slice-body.ensures.value at c.in_err-read-in-Ok-Uses.ensures))

pub step-returns-in_ok-read-in-Ok-Uses-clause-read : goal.step-returns-in_ok-read-in-Ok-Uses-clause-read
step-returns-in_ok-read-in-Ok-Uses-clause-read t c =
    let d = c.in-Ok-Uses in
    let fits : use_fault c.args.spot (around c.element.new.reader) c.as_slice-body.result.now ≡ None =
    sym c.use_fault.ensures.fault ∙ c.in_default.is in
    uses_on c.args.spot c.nested.result (around c.args.reader.now) (around c.element.new.reader) (around c.count.new.self)
    (around c.read.new.reader) c.args.text.now d.body.items d.rest.now c.requires.some
    (rw d.field-0-is at d.ensures.effect)
    (record {
      kept = rw d.field-0-is at d.ensures.kept;
      fits = rw c.as_slice-body.ensures.value at fits;
      counts = rw c.as_slice-body.ensures.value at c.count.ensures;
      nests = c.nested.ensures;
    })
    (rw c.as_slice-body.ensures.value at c.in_ok-read-in-Ok-Uses.ensures)
