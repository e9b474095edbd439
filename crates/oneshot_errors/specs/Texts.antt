-- The texts of the receives' errors.
use Rattle.std.specs.Prelude.{ℕ, List, codes}
use Rattle.oneshot_errors.specs.declared.try_recv.TryRecvError.{TryRecvError}
use Rattle.oneshot_errors.specs.declared.try_recv.TryRecvError.TheVariants.{Empty, Disconnected}
use Rattle.oneshot_errors.specs.declared.recv_timeout.RecvTimeoutError.{RecvTimeoutError}
use Rattle.oneshot_errors.specs.declared.recv_timeout.RecvTimeoutError.TheVariants as timed

abbrev pub try_recv_text : TryRecvError → List ℕ
try_recv_text Empty = codes "receiving on an empty channel"
try_recv_text Disconnected = codes "receiving on a closed channel"

abbrev pub recv_text : List ℕ
recv_text = codes "receiving on a closed channel"

abbrev pub recv_timeout_text : RecvTimeoutError → List ℕ
recv_timeout_text timed.Timeout = codes "timed out waiting on channel"
recv_timeout_text timed.Disconnected = codes "channel is empty and sending half is closed"
