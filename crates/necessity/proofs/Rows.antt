-- Each row of `specs/Rows`, by computing it.
use mathlib.Core.Path.{refl}
use Rattle.machine.proofs.Opened.{opened}
use Rattle.consistency.specs.Cacheless as cacheless
use Rattle.necessity.specs.Rows.{OrderRows}
use Rattle.necessity.specs.Without as without

pub order_rows : OrderRows
unfolding opened cacheless.start_cacheless cacheless.after_accepted without.without_order
order_rows =
    record {
      flush_for_read = (refl, refl);
      flush_for_write = (refl, refl);
      flush_for_fetch = (refl, refl);
      flush_for_device_read = (refl, refl);
      flush_for_part = (refl, refl);
      flush_for_begin_read = (refl, refl);
      flush_for_begin_write = (refl, refl);
      purge_for_read = (refl, refl);
      purge_for_write = (refl, refl);
      purge_for_fetch = (refl, refl);
      purge_for_device_write = (refl, refl);
      both_for_read = (refl, refl);
      both_for_write = (refl, refl);
      both_for_fetch = (refl, refl);
      other_carried_out = refl;
      line_stays = refl;
      dirty_line_stays = (refl, refl);
    }
