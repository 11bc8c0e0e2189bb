use Rattle.std.proofs.Common.{◌∙◌, ◌++◌, ap, codes}
use Rattle.programs.proofs.chunkplan.Appended.{more, named}
use Rattle.programs.proofs.chunkplan.counting.counts_line.Goals as goal

pub returns : goal.returns
returns c =
    let old = c.in_ok-line.line.items in
    let (chunks, are_chunks, l1) = c.in_ok-append_product.ensures in
    let (elements, are_elements, l2) = c.in_ok-append_product-2.ensures in
    let text = codes "{\"chunks_read\":" ++ chunks ++ codes ",\"elements_moved\":" ++ elements ++ codes "}\n" in
    record {
      chunks_read = chunks;
      elements_moved = elements;
      is_chunks_read = rw c.deref.ensures.value at are_chunks;
      is_elements_moved = rw c.deref-2.ensures.value at are_elements;
      is = more old _ _ _ (codes "}\n") c.in_ok-extend_from_slice.ensures.items (named old _ _ _ (codes ",\"elements_moved\":") elements l2 l1)
          ∙ ap (λ l. l ++ text) c.in_ok-line.ensures.items;
    }
