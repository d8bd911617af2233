-- One name for all definitions of this crate, for proofs by computation: what unfolds it unfolds them.
use Rattle.encoding.specs.Bytes.{bytes_of, number_of, cut}

unfoldable pub encodings : Unit {0}
unfolding bytes_of number_of cut
encodings = tt
