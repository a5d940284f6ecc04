use Rattle.std.proofs.Common.{◌≡◌, ◌∙◌, ℕ, List, ap, fold, true, codes}
use Rattle.std.proofs.lemmas.Result.{IfOk-weaker}
use Rattle.clap.specs.Simple.{App, Shape, app_of, app_of_fields, on_top, with_rule}
use Rattle.vf_words.specs.Options.{bare, with_option, option_names, journal_rule, files_rule}
use Rattle.vf_words.proofs.OptionLemmas.{whole}
use Rattle.vf_words.proofs.options.command.Goals as goal

abbrev unnamed : App → App
unnamed = on_top (λ (shape : Shape). record shape { no_binary_name = true })

abbrev without_help : App → App
without_help = on_top (λ (shape : Shape). record shape { disable_help_flag = true })

-- the command with one more option
abbrev also : List ℕ → App → App
also name app = with_option app name

pub returns : goal.returns
returns c =
    let start : app_of c.disable_help_flag-empty.result ≡ bare =
    ap app_of_fields c.disable_help_flag-empty.ensures
    ∙ ap without_help (ap app_of_fields c.no_binary_name.ensures ∙ ap unnamed c.new.ensures.app) in
    let e1 : app_of c.in_ok-command.command ≡ with_option (app_of c.disable_help_flag-empty.result) (codes "mode") = c.in_ok-command.ensures in
    let e2 : app_of c.in_ok-command-2.command ≡ with_option (app_of c.in_ok-command.command) (codes "workers") = c.in_ok-command-2.ensures in
    let e3 : app_of c.in_ok-command-3.command ≡ with_option (app_of c.in_ok-command-2.command) (codes "pages") = c.in_ok-command-3.ensures in
    let e4 : app_of c.in_ok-command-4.command ≡ with_option (app_of c.in_ok-command-3.command) (codes "turns") = c.in_ok-command-4.ensures in
    let e5 : app_of c.in_ok-command-5.command ≡ with_option (app_of c.in_ok-command-4.command) (codes "output") = c.in_ok-command-5.ensures in
    let e6 : app_of c.in_ok-command-6.command ≡ with_option (app_of c.in_ok-command-5.command) (codes "slots") = c.in_ok-command-6.ensures in
    let e7 : app_of c.in_ok-command-7.command ≡ with_option (app_of c.in_ok-command-6.command) (codes "top") = c.in_ok-command-7.ensures in
    let e8 : app_of c.in_ok-command-8.command ≡ with_option (app_of c.in_ok-command-7.command) (codes "evict") = c.in_ok-command-8.ensures in
    let e9 : app_of c.in_ok-command-9.command ≡ with_option (app_of c.in_ok-command-8.command) (codes "test") = c.in_ok-command-9.ensures in
    let e10 : app_of c.in_ok-command-10.command ≡ with_option (app_of c.in_ok-command-9.command) (codes "number") = c.in_ok-command-10.ensures in
    let options : app_of c.in_ok-command-10.command ≡ fold with_option bare option_names =
    e10 ∙ ap (also (codes "number"))
    (e9 ∙ ap (also (codes "test"))
    (e8 ∙ ap (also (codes "evict"))
    (e7 ∙ ap (also (codes "top"))
    (e6 ∙ ap (also (codes "slots"))
    (e5 ∙ ap (also (codes "output"))
    (e4 ∙ ap (also (codes "turns"))
    (e3 ∙ ap (also (codes "pages"))
    (e2 ∙ ap (also (codes "workers"))
    (e1 ∙ ap (also (codes "mode"))
    start))))))))) in
    IfOk-weaker c.with_rest.result _ _
    (λ command e. e ∙ ap (λ (a : App). with_rule (with_rule a journal_rule) files_rule) options ∙ whole) c.with_rest.ensures
