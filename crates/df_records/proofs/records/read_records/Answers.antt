use Rattle.std.proofs.Common.{Bor, List, ℕ, ◌∙◌, ◌++◌, ◌∷◌, [], sym, refl, inl, inr, Some}
use Rattle.csv.specs.Reading.{Reached, default_config, strip_bom}
use Rattle.csv.specs.Records.{fields_of}
use Rattle.csv.proofs.ReadFacts.{rows-more, rows-end}
use Rattle.df_records.proofs.Reading.{read_more, read_bad, read_all}
use Rattle.df_records.proofs.Lengths.{file_is_longer}
use Rattle.df_records.proofs.records.read_records.Goals as goal

pub loop-line-init : goal.loop-line-init
unfolding Reached
loop-line-init g c =
    let fr = c.from_reader-reader.ensures in
    let e = c.flexible.ensures in
    let h = c.has_headers.ensures in (
      rw (e, h) at fr.trim ∙ c.new.ensures.trim,
      inr (inr (rw (e, h) at fr.has_headers, fr.headers)),
      rw (e, h) at fr.config ∙ c.new.ensures.config,
      strip_bom c.args.bytes.now,
      fr.source,
      [],
      (sym fr.state, refl),
      inl (refl, c.new-told.ensures.items, refl),
    )

pub loop-line-preserved : goal.loop-line-preserved
loop-line-preserved g c =
    let inv = c.loop-line.invariant in
    let fields = fields_of c.read_byte_record.new.row in
    let read = rw c.if-not-found.false at (c.in-Ok.ensures.reads inv.0 inv.1) in
    let m = rows-more (λ (s : Bor (List ℕ)). Some s.now) c.loop-line.reader c.read_byte_record.new.self fields _ _ _ inv.3 inv.5 inv.2 inv.4 inv.6 read in
    let took = rw c.if-not-good.false at c.in_ok-good.ensures in (
      read.3 ∙ inv.0,
      inl (c.in-Ok.ensures.ready inv.0),
      read.2 ∙ inv.2,
      m.0,
      m.1,
      inv.5 ++ fields ∷ [],
      m.2,
      read_more g.F.Form.header g.F.Form.told_of inv.5 c.loop-line.told.items c.take_record.new.told.items fields c.loop-line.line inv.7 took,
    )

pub returns-then-not-good-clause-refused : goal.returns-then-not-good-clause-refused
returns-then-not-good-clause-refused g c =
    let inv = c.loop-line.invariant in
    let fields = fields_of c.read_byte_record.new.row in
    let read = rw c.if-not-found.false at (c.in-Ok.ensures.reads inv.0 inv.1) in
    let m = rows-more (λ (s : Bor (List ℕ)). Some s.now) c.loop-line.reader c.read_byte_record.new.self fields _ _ _ inv.3 inv.5 inv.2 inv.4 inv.6 read in
    let took = rw c.if-not-good.true at c.in_ok-good.ensures in
    let bad = read_bad g.F.Form.header g.F.Form.told_of inv.5 c.loop-line.told.items c.take_record.new.told.items fields c.loop-line.line inv.7 took in
    inr (inv.5, fields, (c.read_byte_record.new.self.state, m.0, m.2), bad.0, bad.1)

pub returns-then-line-gt1-clause-few : goal.returns-then-line-gt1-clause-few
returns-then-line-gt1-clause-few g c =
    let inv = c.loop-line.invariant in
    let fields = fields_of c.read_byte_record.new.row in
    let read = rw c.if-not-found.true at (c.in-Ok.ensures.reads inv.0 inv.1) in
    let last = rows-end (λ (s : Bor (List ℕ)). Some s.now) c.loop-line.reader c.read_byte_record.new.self fields default_config inv.3 inv.2 inv.4 read in
    file_is_longer g.F.Form.header g.F.Form.told_of c.args.bytes.now c.loop-line.told.items
    (inv.5, (c.loop-line.reader.state, inv.3, inv.6, last), read_all g.F.Form.header g.F.Form.told_of inv.5 _ _ inv.7 c.if-line-gt1.true)
