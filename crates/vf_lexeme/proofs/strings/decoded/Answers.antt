use Rattle.std.proofs.Common.{Ok, ap, ◌∙◌, sym}
use Rattle.std.proofs.lemmas.List.{nil_from_length}
use Rattle.vf_lexeme.proofs.Stringing.{decoded_more, decoded_end}
use Rattle.vf_lexeme.proofs.strings.decoded.Goals as goal

pub loop-first-preserved : goal.loop-first-preserved
loop-first-preserved c =
    let more = c.in-Some.more.now in
    let first = c.in-Some.first.now in
    rw (c.in_ok-push.ensures.items, c.split_at.ensures.back)
    (decoded_more c.loop-first.value.items c.loop-first.rest.now more first c.piece-byte.result.0 c.piece-byte.result.1 _
    c.in-Some.ensures.cases.0
    (ap (λ p. p.0) c.piece-byte.ensures.value) (ap (λ p. p.1) c.piece-byte.ensures.value) c.loop-first.invariant)

pub returns : goal.returns
returns c =
    ap (λ t. Ok t) (decoded_end c.loop-first.value.items c.loop-first.rest.now _ (nil_from_length _ c.in_default.ensures.cases)
    c.loop-first.invariant ∙ sym c.new.ensures)
