use Rattle.w16_reloc.proofs.RecordLemmas.{chain_ready, chain_written, system_written}
use Rattle.w16_reloc.proofs.image.write_record.Goals as goal

pub returns-in-Stored : goal.returns-in-Stored
returns-in-Stored c = λ file before ats ready.
    let stored = rw c.in-Stored.is at ready in
    rw c.in-Stored.is (chain_written file c.args.bytes.now c.write_chain.new.bytes before c.in-Stored.fixup c.args.far ats
    (c.write_chain.ensures file _ _ (chain_ready file c.args.bytes.now before c.in-Stored.fixup c.args.far ats stored)))

pub returns-in-System : goal.returns-in-System
returns-in-System c = λ file before ats ready. rw c.in-System.is (system_written file c.args.bytes.now before c.args.far ats (rw c.in-System.is at ready))
