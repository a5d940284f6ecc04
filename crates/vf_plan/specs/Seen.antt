-- The parts of a node's form as the reader holds them.
use Rattle.std.specs.Prelude.{option_map}
use Rattle.vf_plan.specs.Form as form
use Rattle.vf_plan.specs.declared.form.Texts.{Texts}
use Rattle.vf_plan.specs.declared.form.Marks.{Marks}

abbrev pub texts_seen : Texts → form.Texts
texts_seen t = record {
  name = t.name.now;
  after = option_map (λ text. text.now) t.after;
  text = option_map (λ text. text.now) t.text;
  hex = option_map (λ text. text.now) t.hex;
  expect_text = option_map (λ text. text.now) t.expect_text;
  expect = option_map (λ text. text.now) t.expect;
}

abbrev pub marks_seen : Marks → form.Marks
marks_seen m = record { test = m.test; turns = m.turns; output = m.output }
