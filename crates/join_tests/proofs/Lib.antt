mod OrderLevels
mod TreeNodes
