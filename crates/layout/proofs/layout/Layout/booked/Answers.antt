-- `booked` meets its contract: its calls may be made, and what they give is the next layout, by proofs/Booked.antt. Assumes nothing.
use native.Mathlib.Omega.{arith}
use Rattle.layout.proofs.Typed.{typed-numbered}
use Rattle.layout.proofs.Booked.{book-may, insert-done, lists-may, marks-may, some-held, used-may}
use Rattle.layout.proofs.layout.Layout.booked.Goals as goal

pub book-b-requires : goal.book-b-requires
book-b-requires c =
    let a = c.args in
    book-may a.self a.place a.part a.rotation a.shape c.requires (typed-numbered a.part _ c.well_formed.1.1.0) c.layout_nodes.ensures
    c.size_in-size.ensures

pub overflow_sub-self : goal.overflow_sub-self
overflow_sub-self c =
    let a = c.args in
    omega (arith, some-held a.self a.place a.part a.rotation a.shape c.requires)

pub overflow_add-self-2 : goal.overflow_add-self-2
overflow_add-self-2 c =
    let a = c.args in
    omega (
      arith,
      used-may a.self a.place a.part a.rotation a.shape c.requires (typed-numbered a.part _ c.well_formed.1.1.0) c.layout_nodes.ensures
          c.size_in-size.ensures c.area.ensures,
    )

pub with_nodes-next-requires : goal.with_nodes-next-requires
with_nodes-next-requires c =
    let a = c.args in
    lists-may a.self a.place a.part a.rotation a.shape c.requires (typed-numbered a.part _ c.well_formed.1.1.0) c.layout_nodes.ensures
    c.size_in-size.ensures c.book-b.ensures

pub marks_of-requires : goal.marks_of-requires
marks_of-requires c =
    let a = c.args in
    marks-may a.self a.place a.part a.rotation a.shape c.requires (typed-numbered a.part _ c.well_formed.1.1.0) c.layout_nodes.ensures
    c.size_in-size.ensures c.book-b.ensures

pub returns : goal.returns
returns c =
    let a = c.args in
    insert-done a.self a.place a.part a.rotation a.shape c.requires (typed-numbered a.part _ c.well_formed.1.1.0) c.layout_nodes.ensures
    c.size_in-size.ensures c.book-b.ensures c.new_count-new.ensures c.area.ensures c.with_nodes-next.ensures c.marks_of.ensures
