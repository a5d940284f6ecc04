use Rattle.vf_pages.proofs.gather.add_new.Goals as goal

pub returns-clause-ok : goal.returns-clause-ok
returns-clause-ok g c = rw c.zero_words.ensures at c.add_fresh.ensures.ok
