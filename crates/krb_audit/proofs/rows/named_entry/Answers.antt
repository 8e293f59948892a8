use Rattle.krb_audit.proofs.Cited.{◌≡◌, length, arith, ◌∙◌, kt_name, ◌-◌}
use Rattle.krb_audit.proofs.NameBytes.{opens, is_read, lengths, name_taken}
use Rattle.krb_audit.proofs.rows.named_entry.Goals as goal

pub returns-in_err-rest-clause-entry : goal.returns-in_err-rest-clause-entry
returns-in_err-rest-clause-entry c = search (arith, is_read)

pub overflow_sub-end : goal.overflow_sub-end
overflow_sub-end c =
    omega (arith, lengths c.args.format c.in_ok-entry.entry c.args.bytes.now _ c.in_ok-rest.rest.now c.in_ok-entry.ensures.found c.in_ok-rest.ensures)

pub overflow_sub-end-2 : goal.overflow_sub-end-2
overflow_sub-end-2 c =
    omega (arith, lengths c.args.format c.in_ok-entry.entry c.args.bytes.now _ c.in_ok-rest.rest.now c.in_ok-entry.ensures.found c.in_ok-rest.ensures, c.name_type_len.ensures)

pub returns : goal.returns
returns c =
    let len = lengths c.args.format c.in_ok-entry.entry c.args.bytes.now _ c.in_ok-rest.rest.now c.in_ok-entry.ensures.found c.in_ok-rest.ensures in
    let end : length c.args.bytes.now - length c.in_ok-rest.rest.now - c.name_type_len.result ≡ length (kt_name c.args.format c.in_ok-entry.entry.principal) = omega (arith, len, c.name_type_len.ensures) in
    record {
      entry = c.in_ok-entry.ensures.exact;
      name = c.split_at.ensures.front ∙ name_taken c.args.format c.in_ok-entry.entry c.args.bytes.now _ c.in_ok-entry.ensures.found end;
      fits = (opens c.args.format c.in_ok-entry.entry c.args.bytes.now c.in_ok-entry.ensures.found).fits;
    }
