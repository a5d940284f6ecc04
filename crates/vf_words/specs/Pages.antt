-- The texts that the command line can ask for.
use Rattle.std.specs.Prelude.{ℕ, List}
use Rattle.vf_words.specs.declared.help.TheConstants.{HELP_PAGE, VERSION_LINE}

unfoldable pub help_text : List ℕ
help_text = HELP_PAGE.now

unfoldable pub version_text : List ℕ
version_text = VERSION_LINE.now
