use Rattle.csv.specs.Records.{fields_of}
use Rattle.csv_tables.proofs.ReaderFacts.{gives_next_record, gives_no_record}
use Rattle.csv_tables.proofs.records.next_record.Goals as goal

pub returns-clause-reading : goal.returns-clause-reading
returns-clause-reading c = λ found. (gives_next_record c.args.reader.now c.read_byte_record.new.self (fields_of c.read_byte_record.new.row) c.requires
    (c.in-Ok.ensures.ready c.requires.trim) (rw found at (c.in-Ok.ensures.reads c.requires.trim c.requires.ready))).reading

pub returns-clause-more : goal.returns-clause-more
returns-clause-more c = λ found. (gives_next_record c.args.reader.now c.read_byte_record.new.self (fields_of c.read_byte_record.new.row) c.requires
    (c.in-Ok.ensures.ready c.requires.trim) (rw found at (c.in-Ok.ensures.reads c.requires.trim c.requires.ready))).first

pub returns-clause-end : goal.returns-clause-end
returns-clause-end c = λ found. gives_no_record c.args.reader.now c.read_byte_record.new.self (fields_of c.read_byte_record.new.row) c.requires
    (rw found at (c.in-Ok.ensures.reads c.requires.trim c.requires.ready))

pub returns-clause-text : goal.returns-clause-text
returns-clause-text c = λ found. (gives_next_record c.args.reader.now c.read_byte_record.new.self (fields_of c.read_byte_record.new.row) c.requires
    (c.in-Ok.ensures.ready c.requires.trim) (rw found at (c.in-Ok.ensures.reads c.requires.trim c.requires.ready))).text

pub returns-clause-fields : goal.returns-clause-fields
returns-clause-fields c = λ found. (gives_next_record c.args.reader.now c.read_byte_record.new.self (fields_of c.read_byte_record.new.row) c.requires
    (c.in-Ok.ensures.ready c.requires.trim) (rw found at (c.in-Ok.ensures.reads c.requires.trim c.requires.ready))).few
