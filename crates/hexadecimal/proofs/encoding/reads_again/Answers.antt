use Rattle.hexadecimal.proofs.Steps.{decode-encode}
use Rattle.hexadecimal.proofs.encoding.reads_again.Goals as goal

pub returns : goal.returns
returns c = decode-encode
