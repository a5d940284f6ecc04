use Rattle.vf_macro.proofs.Parts.{string_passed}
use Rattle.vf_macro.proofs.scan.string.Goals as goal

pub returns-in-Ok : goal.returns-in-Ok
returns-in-Ok c = string_passed c.args.bytes.now c.args.quoted.now _ c.requires c.in-Ok.ensures.found

pub returns-in-Err : goal.returns-in-Err
returns-in-Err c = rw c.after_line.ensures.rest
    (string_passed c.args.bytes.now c.args.quoted.now _ c.requires c.in-Err.ensures.refused)
