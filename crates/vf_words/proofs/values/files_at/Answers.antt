use Rattle.std.proofs.Common.{◌≡◌, ◌∙◌, ap, map, subst, [], List, ℕ, Option}
use Rattle.std.specs.Prelude.{unwrap_or}
use Rattle.std.specs.Borrow.{Bor}
use Rattle.clap.specs.Matches.{found_of}
use Rattle.clap.specs.Walk.{rows_of}
use Rattle.clap.proofs.WalkLemmas.{raw_values-rows}
use Rattle.vf_words.specs.Answers.{Gives}
use Rattle.vf_words.specs.Options.{files_of}
use Rattle.vf_words.specs.Words.{files_in}
use Rattle.vf_words.proofs.OptionLemmas.{or_default}
use Rattle.vf_words.proofs.values.files_at.Goals as goal

abbrev texts_behind : Bor (List (Bor (List ℕ))) → List (List ℕ)
texts_behind names = map (λ name. name.now) names.now

pub returns-clause-files : goal.returns-clause-files
returns-clause-files c =
    let names : texts_behind c.unwrap_or-files.result ≡ files_of (rows_of (found_of c.args.matches.now)) =
    ap texts_behind c.unwrap_or-files.ensures
    ∙ or_default texts_behind c.get_strs.result _
    ∙ ap (λ (found : Option (List (List ℕ))). unwrap_or found []) (c.get_strs.ensures ∙ raw_values-rows (found_of c.args.matches.now) _) in
    subst (λ (names : List (List ℕ)). Gives c.files_in.result (files_in c.args.mode names)) names c.files_in.ensures.files
