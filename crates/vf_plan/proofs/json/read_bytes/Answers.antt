use Rattle.vf_plan.proofs.JsonLemmas.{read_bytes-read, read_bytes-refused}
use Rattle.vf_plan.proofs.json.read_bytes.Goals as goal

pub returns-in-Ok-clause-ok : goal.returns-in-Ok-clause-ok
returns-in-Ok-clause-ok c = read_bytes-read _ _ c.in-Ok.ensures.ok.0 c.in-Ok.ensures.ok.1

pub returns-else-is_memory-clause-not_json : goal.returns-else-is_memory-clause-not_json
returns-else-is_memory-clause-not_json c = λ _. read_bytes-refused _ (c.in-Err.ensures.err (λ memory. let wrong = c.if-is_memory.ensures.1 memory in cc))
