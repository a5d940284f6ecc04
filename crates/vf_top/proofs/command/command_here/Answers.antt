use Rattle.vf_top.proofs.ExactLemmas.{words_exact, pages_exact, work_exact}
use Rattle.vf_top.proofs.FileLemmas.{files_kept}
use Rattle.vf_top.proofs.command.command_here.Goals as goal

pub returns : goal.returns
returns g c =
    let answer = c.answer.ensures.answer in
    record {
      answer = answer;
      files = files_kept _ _ _ _ answer;
      parts = c.answer.ensures.parts;
      words_exact = words_exact _ _ _ _ answer;
      pages_exact = pages_exact _ _ _ _ answer;
      work_exact = work_exact c.one_program.ensures _ _ _ _ answer;
    }
