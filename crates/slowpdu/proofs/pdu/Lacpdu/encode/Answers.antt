use Rattle.slowpdu.proofs.Common.{arith}
use Rattle.slowpdu.proofs.EncodeLemmas.{written, all_put}
use Rattle.slowpdu.proofs.pdu.Lacpdu.encode.Goals as goal

pub returns : goal.returns
returns c = let same = all_put c.args.self.now c.put_octets.new.payload c.put_info.new.payload c.put_octets-2.new.payload
    c.put_info-2.new.payload c.put_octets-3.new.payload c.put_u16.new.payload c.put_octets.ensures
    c.put_info.ensures.put_octets c.put_octets-2.ensures c.put_info-2.ensures.put_octets c.put_octets-3.ensures c.put_u16.ensures.put_octets in
    written c.args.self.now c.put_u16.new.payload same c.put_info.ensures.fits c.put_info-2.ensures.fits (omega arith) c.put_u16.ensures.octets
