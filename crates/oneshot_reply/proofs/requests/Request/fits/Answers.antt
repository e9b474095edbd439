-- A proof of one goal of `fits`. `search` finds it too. With a file of answers the prover offers none for a wrong body.
use Rattle.std.proofs.Common.{rules}
use Rattle.oneshot_reply.proofs.requests.Request.fits.Goals as goal

pub returns : goal.returns
returns g c = search rules
