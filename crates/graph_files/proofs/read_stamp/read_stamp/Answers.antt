use Rattle.std.proofs.Common.{◌≡◌}
use Rattle.graph_files.specs.declared.fault.IndexFault.{IndexFault}
use Rattle.graph_files.specs.declared.fault.IndexFault.TheVariants.{Read}
use Rattle.graph_files.proofs.Told.{gives_err, broken_err}
use Rattle.graph_files.proofs.RowLoop.{fails_with}
use Rattle.graph_files.proofs.StampLaws.{no_stamp, stamp_broken, stamp_read, stamp_of_rule, front_bytes, plain_bytes}
use Rattle.graph_files.proofs.read_stamp.read_stamp.Goals as goal

pub returns-then-h-eq1-clause-stamp : goal.returns-then-h-eq1-clause-stamp
returns-then-h-eq1-clause-stamp c file shows ends = no_stamp c.args.h file c.if-h-eq1.true

pub returns-in_err-stamp-clause-stamp : goal.returns-in_err-stamp-clause-stamp
returns-in_err-stamp-clause-stamp c file shows ends =
    gives_err _ c.from_residual.result c.in_err-stamp.field-0.0 _ c.from_residual.ensures.1
    (fails_with c.in_err-stamp.field-0.0 _ (stamp_broken c.args.h file c.front_of.result.now c.in_err-stamp.field-0.0 c.if-h-eq1.false (c.front_of.ensures.front file shows ends) c.in_err-stamp.ensures.broken))

pub returns-in_err-stamp-clause-told : goal.returns-in_err-stamp-clause-told
returns-in_err-stamp-clause-told c =
    broken_err c.from_residual.result c.in_err-stamp.field-0.0 (λ (f : IndexFault). f ≡ Read → ⊥) c.from_residual.ensures.1 (stamp_of_rule c.args.h.kind c.front_of.result.now c.in_err-stamp.field-0.0 c.in_err-stamp.ensures.broken)

pub returns-clause-stamp : goal.returns-clause-stamp
returns-clause-stamp c file shows ends = stamp_read c.args.h file c.front_of.result.now c.in_ok-stamp.stamp c.if-h-eq1.false (c.front_of.ensures.front file shows ends) c.in_ok-stamp.ensures.sound.0 c.in_ok-stamp.ensures.sound.1

pub returns-clause-bytes : goal.returns-clause-bytes
returns-clause-bytes c file shows ends low = front_bytes c.args.h.version file c.front_of.result.now c.if-h-eq1.false (c.front_of.ensures.front file shows ends) c.in_ok-stamp.ensures.are_bytes

pub returns-then-h-eq1-clause-bytes : goal.returns-then-h-eq1-clause-bytes
returns-then-h-eq1-clause-bytes c file shows ends low = plain_bytes c.args.h.version file c.if-h-eq1.true low
