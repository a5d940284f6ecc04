use Rattle.std.proofs.Common.{◌≡◌, ◌∙◌, ap, true}
use Rattle.clap.specs.Faults.{is_simple_and_free}
use Rattle.clap.specs.Simple.{App, app_of, is_simple}
use Rattle.vf_words.proofs.OptionLemmas.{is_free, is_plain, found, refused}
use Rattle.vf_words.proofs.options.parsed.Goals as goal

pub returns-in-Ok : goal.returns-in-Ok
returns-in-Ok c =
    let is = c.in_ok-command.ensures in
    let free : is_simple_and_free (app_of c.in_ok-command.field-0) ≡ true = ap (λ (a : App). is_simple_and_free a) is ∙ is_free in
    let plain : is_simple (app_of c.in_ok-command.field-0) ≡ true = ap (λ (a : App). is_simple a) is ∙ is_plain in
    found _ _ _ is (c.in-Ok.ensures.kinds free) (c.in-Ok.ensures.matches plain).0

pub returns : goal.returns
returns c = λ _.
    let is = c.in_ok-command.ensures in
    let free : is_simple_and_free (app_of c.in_ok-command.field-0) ≡ true = ap (λ (a : App). is_simple_and_free a) is ∙ is_free in
    refused _ _ c.in-Err.error is (c.in-Err.ensures.kinds free) (λ h. c.in_default.not-OutOfMemory (c.kind.ensures ∙ h))
