mod Worked
mod TreePlansOf
