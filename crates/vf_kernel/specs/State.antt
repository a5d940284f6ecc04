-- The state as the kernel reads it from words.
use Rattle.vf_kernel.specs.declared.state.Status as kernel
use Rattle.vf_kernel.specs.declared.state.Status.TheVariants as statuses
use Rattle.vf_kernel.specs.declared.state.State as read
use Rattle.vf_design.specs.State.{State, Status, halted, active, running}

abbrev pub status_of : kernel.Status → Status
status_of statuses.Halted = halted
status_of statuses.Active = active
status_of statuses.Running = running

abbrev pub state_of : read.State → State
state_of s = record { place = s.place; status = status_of s.status; value = s.value }
