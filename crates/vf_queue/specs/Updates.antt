-- Updates as the scheduler's definitions know them.
use Rattle.vf_scheduler.specs.State as model
use Rattle.vf_queue.specs.declared.update.Update.{Update}

abbrev pub update_of : Update → model.Update
update_of u = record { sig = u.sig.0; element = u.element; low = u.low; bits = u.value.bits }
