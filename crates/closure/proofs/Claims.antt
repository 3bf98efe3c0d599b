-- The claim of specs/Claims.antt. Assumes nothing.
use Rattle.closure.specs.Claims.{ClosureMeans}
use Rattle.closure.proofs.Closure.{closure_reaches, reaches_closure}

pub closure_means : ClosureMeans
closure_means direct r q hr hq = (closure_reaches direct r q hr hq, reaches_closure direct r q hr hq)
