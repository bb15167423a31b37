use Rattle.std.proofs.Common.{rules}
use Rattle.frames.proofs.Decoding.{decode_head, decode_counts, decode_body, decode_pairs, decode_all}
use Rattle.frames.proofs.decode.Limits.check_form.Goals as goal

pub returns-in_err-parts : goal.returns-in_err-parts
returns-in_err-parts c =
    let s = c.args.self.now in
    let d = decode_head s.stations s.faults s.batches c.args.bytes.now c.in_err-parts.field-0.0 c.in_err-parts.ensures.is in
    search rules

pub returns-in_err-check_counts : goal.returns-in_err-check_counts
returns-in_err-check_counts c =
    let s = c.args.self.now in
    let p = c.in_ok-parts.parts in
    let d = decode_counts s.stations s.faults s.batches c.args.bytes.now p.head p.body.now p.pairs.now p.left.now c.in_ok-parts.ensures.is c.in_ok-parts.ensures.cut
    c.in_err-check_counts.field-0.0 c.in_err-check_counts.ensures in
    search rules

pub returns-in_err-check_body : goal.returns-in_err-check_body
returns-in_err-check_body c =
    let s = c.args.self.now in
    let p = c.in_ok-parts.parts in
    let d = decode_body s.stations s.faults s.batches c.args.bytes.now p.head p.body.now p.pairs.now p.left.now c.in_ok-parts.ensures.is c.in_ok-parts.ensures.cut
    c.in_ok-check_counts.field-0 c.in_ok-check_counts.ensures c.in_err-check_body.field-0.0 c.in_err-check_body.ensures in
    search rules

pub returns-in_err-check_pairs : goal.returns-in_err-check_pairs
returns-in_err-check_pairs c =
    let s = c.args.self.now in
    let p = c.in_ok-parts.parts in
    let d = decode_pairs s.stations s.faults s.batches c.args.bytes.now p.head p.body.now p.pairs.now p.left.now c.in_ok-parts.ensures.is c.in_ok-parts.ensures.cut
    c.in_ok-check_counts.field-0 c.in_ok-check_counts.ensures c.in_ok-check_body.field-0 c.in_ok-check_body.ensures
    c.in_err-check_pairs.field-0.0 c.in_err-check_pairs.ensures in
    search rules

pub returns : goal.returns
returns c =
    let s = c.args.self.now in
    let p = c.in_ok-parts.parts in
    decode_all s.stations s.faults s.batches c.args.bytes.now p.head p.body.now p.pairs.now p.left.now c.in_ok-parts.ensures.is c.in_ok-parts.ensures.cut
    c.in_ok-check_counts.field-0 c.in_ok-check_counts.ensures c.in_ok-check_body.field-0 c.in_ok-check_body.ensures
    c.in_ok-check_pairs.field-0 c.in_ok-check_pairs.ensures
